-- The last move of the events so far.
use Rattle.std.specs.Prelude.{◌≡◌}
use Rattle.scope_model.specs.{last_of, move_of, take}
use Rattle.scope_model.proofs.scan.view.HistoryView.last_move.Given as goal

abbrev pub invariant-loop-place : goal.invariant-loop-place
invariant-loop-place l = l.last ≡ last_of (move_of l.scope) (take l.place l.self.events)

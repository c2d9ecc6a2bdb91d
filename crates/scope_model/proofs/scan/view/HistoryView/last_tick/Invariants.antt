-- The last tick of the events so far.
use Rattle.std.specs.Prelude.{◌≡◌}
use Rattle.scope_model.specs.{last_of, take, tick_of}
use Rattle.scope_model.proofs.scan.view.HistoryView.last_tick.Given as goal

abbrev pub invariant-loop-place : goal.invariant-loop-place
invariant-loop-place l = l.last ≡ last_of tick_of (take l.place l.self.events)

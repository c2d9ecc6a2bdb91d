-- Whether one of the scopes so far was opened while the last pair stood.
use Rattle.std.specs.Prelude.{◌+◌, ◌≡◌}
use Rattle.scope_model.specs.{list_any, opened_above, range_with_len}
use Rattle.scope_model.proofs.scan.view.HistoryView.holds_last.Given as goal

abbrev pub invariant-loop-before : goal.invariant-loop-before
invariant-loop-before l = l.found ≡ list_any (opened_above l.self l.actor) (range_with_len (l.self.base.scopes + 1) l.before)

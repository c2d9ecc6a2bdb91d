-- Whether one of the scopes so far is another and covered.
use Rattle.std.specs.Prelude.{◌+◌, ◌≡◌}
use Rattle.scope_model.specs.{covers_other, list_any, range_with_len}
use Rattle.scope_model.proofs.scan.view.HistoryView.covers_another.Given as goal

abbrev pub invariant-loop-before : goal.invariant-loop-before
invariant-loop-before l = l.found ≡ list_any (covers_other l.self l.scope) (range_with_len (l.self.base.scopes + 1) l.before)

-- Neither has a deadline of any scope.
use Rattle.deadline_core.specs.{is_at, lookup, nat_cmp}
use Rattle.deadline_core.proofs.Words.{◌∙◌, ap, sym}
use Rattle.std.specs.FinMap as map
use Rattle.deadline_core.proofs.deadlines.Deadlines.new.Goals as goal

pub invariant_of-result : goal.invariant_of-result
invariant_of-result c = record {
  same = λ q. ap (lookup (is_at (nat_cmp q))) c.new.ensures.empty ∙ sym (map.get-empty nat_cmp q) ∙ ap (λ m. map.get m q) (sym c.new-2.ensures);
}

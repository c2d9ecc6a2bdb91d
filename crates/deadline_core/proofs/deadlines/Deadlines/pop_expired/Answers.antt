-- Both lose the scope.
use Rattle.std.specs.BTreeMap as tree
use Rattle.deadline_core.specs.{nat_cmp}
use Rattle.deadline_core.proofs.Views.{both_removed}
use Rattle.deadline_core.proofs.deadlines.Deadlines.pop_expired.Goals as goal

pub invariant_of-self-2 : goal.invariant_of-self-2
invariant_of-self-2 c = record {
  same = both_removed (tree.get nat_cmp c.self.inside.moments) (tree.get nat_cmp c.remove.new.self) c.self.inside.order c.pop_expired.new.self c.in_ok-scope.scope
      c.self.invariant.same c.in_ok-scope.ensures.removed c.remove.ensures.updates.0;
}

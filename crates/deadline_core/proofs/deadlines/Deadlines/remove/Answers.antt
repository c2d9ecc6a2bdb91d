-- Both lose the scope.
use Rattle.std.specs.BTreeMap as tree
use Rattle.deadline_core.specs.{nat_cmp}
use Rattle.deadline_core.proofs.Views.{both_removed}
use Rattle.deadline_core.proofs.deadlines.Deadlines.remove.Goals as goal

pub invariant_of-self : goal.invariant_of-self
invariant_of-self c = record {
  same = both_removed (tree.get nat_cmp c.self.inside.moments) (tree.get nat_cmp c.remove-before.new.self) c.self.inside.order c.remove.new.self c.args.scope
      c.self.invariant.same c.remove.ensures c.remove-before.ensures.updates.0;
}

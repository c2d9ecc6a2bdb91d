-- Both are given the deadline. If the map refuses, the scope had none, and the order gives it back.
use Rattle.deadline_core.specs.{lookup, nat_cmp}
use Rattle.deadline_core.proofs.Words.{◌∙◌, ap, sym}
use Rattle.deadline_core.proofs.Views.{both_set, given_back, set_and_removed}
use Rattle.std.specs.BTreeMap as tree
use Rattle.std.specs.FinMap as map
use Rattle.deadline_core.proofs.deadlines.Deadlines.set.Goals as goal

pub invariant_of-self-in-Ok : goal.invariant_of-self-in-Ok
invariant_of-self-in-Ok c = record {
  same = both_set (tree.get nat_cmp c.self.inside.moments) (tree.get nat_cmp c.insert.new.self) c.self.inside.order c.set.new.self c.args.scope
      c.self.invariant.same c.args.deadline c.in_ok-set.ensures.set c.in-Ok.ensures.updates.0;
}

pub remove-requires : goal.remove-requires
remove-requires c = given_back c.self.inside.order c.set.new.self c.args.scope c.args.deadline c.in_ok-set.ensures.set

pub returns-in-Err-clause-unchanged : goal.returns-in-Err-clause-unchanged
returns-in-Err-clause-unchanged c =
    set_and_removed c.self.inside.order c.set.new.self c.remove.new.self c.args.scope c.args.deadline (sym (c.self.invariant.same c.args.scope) ∙ c.in-Err.ensures.absent) c.in_ok-set.ensures.set c.remove.ensures
    ∙ c.self.view_is

pub invariant_of-self-in-Err : goal.invariant_of-self-in-Err
invariant_of-self-in-Err c =
    let back = set_and_removed c.self.inside.order c.set.new.self c.remove.new.self c.args.scope c.args.deadline (sym (c.self.invariant.same c.args.scope) ∙ c.in-Err.ensures.absent) c.in_ok-set.ensures.set c.remove.ensures in
    record {
      same = λ q. ap (λ es. lookup (tree.is_at (nat_cmp q)) es) c.in-Err.ensures.err ∙ c.self.invariant.same q ∙ ap (λ m. map.get m q) (sym back);
    }

-- The part of the list that was sorted is the last run.
use Rattle.std.proofs.Common.{◌<◌, arith, refl}
use Rattle.cancel_tree.proofs.Words.{IsNonDecreasingBy-from_sort}
use Rattle.cancel_tree.proofs.RunLaws.{back_is, back_moved, part_moved, runs_sorted}
use Rattle.cancel_tree.proofs.cancel_order.CancelOrder.sort_run.Goals as goal

pub returns-then-self-len-clause-runs : goal.returns-then-self-len-clause-runs
returns-then-self-len-clause-runs c =
    let l = c.args.self.now in
    let lent = c.deref_mut.result.now in
    let lt : c.args.self.now.run < c.args.self.now.scopes.len = omega (arith, c.if-self-len.true, c.len.ensures) in
    λ when once runs. runs_sorted when l _ c.sort_unstable.new.self refl refl
    (back_is l.scopes.items lent c.sort_unstable.new.self l.run l.scopes.len c.deref_mut.ensures.value lt c.deref_mut.ensures.len c.sort_unstable.ensures.permutation)
    (part_moved l.scopes.items lent c.sort_unstable.new.self l.run l.scopes.len c.deref_mut.ensures.value lt c.deref_mut.ensures.len c.sort_unstable.ensures.permutation)
    (IsNonDecreasingBy-from_sort (λ x. x) c.sort_unstable.new.self c.sort_unstable.ensures.sorted) once runs

pub returns-then-self-len-clause-moved : goal.returns-then-self-len-clause-moved
returns-then-self-len-clause-moved c =
    let l = c.args.self.now in
    let lt : c.args.self.now.run < c.args.self.now.scopes.len = omega (arith, c.if-self-len.true, c.len.ensures) in
    back_moved l.scopes.items c.deref_mut.result.now c.sort_unstable.new.self l.run l.scopes.len c.deref_mut.ensures.value lt c.deref_mut.ensures.len c.sort_unstable.ensures.permutation

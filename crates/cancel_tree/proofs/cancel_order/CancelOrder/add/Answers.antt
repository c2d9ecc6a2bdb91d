-- The scope is listed last, in the run of its opening.
use Rattle.std.proofs.Common.{[], ◌++◌, ◌∙◌, ◌∷◌, IsPermutation, Some, ap, arith, cond, subst, sym}
use Rattle.cancel_tree.proofs.Words.{IsPermutation-append_left, length_permutation}
use Rattle.cancel_tree.proofs.RunLaws.{runs_push}
use Rattle.cancel_tree.proofs.cancel_order.CancelOrder.add.Goals as goal

pub push-requires : goal.push-requires
push-requires c =
    let len = length_permutation c.args.self.now.scopes.items c.begin.new.self.scopes.items c.begin.ensures.moved in
    record { room = omega (arith, c.requires.room, c.begin.ensures.room) }

pub returns-then-is_cancelled-clause-runs : goal.returns-then-is_cancelled-clause-runs
returns-then-is_cancelled-clause-runs c = λ when once runs here.
    runs_push when c.begin.new.self c.push.new.self c.args.scope c.push.ensures.grown c.push.ensures.scopes c.begin.ensures.in_order (c.begin.ensures.runs when once runs)
    (here c.if-is_cancelled.true ∙ ap Some (sym c.begin.ensures.place))

pub returns-then-is_cancelled-clause-moved : goal.returns-then-is_cancelled-clause-moved
returns-then-is_cancelled-clause-moved c =
    let old = c.args.self.now.scopes.items in
    subst (λ xs. IsPermutation xs c.push.new.self.scopes.items) (sym (ap (λ b. cond b (old ++ c.args.scope ∷ []) old) c.if-is_cancelled.true))
    (subst (IsPermutation (old ++ c.args.scope ∷ [])) (sym c.push.ensures.scopes) (IsPermutation-append_left (c.args.scope ∷ []) old c.begin.new.self.scopes.items c.begin.ensures.moved))

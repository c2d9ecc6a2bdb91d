-- Each turn removes the next scope that is due.
use Rattle.deadline_core.specs.{IsDueInOrder, list_any}
use Rattle.deadline_core.proofs.Words.{◌∙◌, None, ap, cond, eqb, subst, take_all}
use Rattle.deadline_core.proofs.Due.{left_of_due, one_less}
use Rattle.std.specs.FinMap as map
use Rattle.deadline_core.proofs.deadlines.Deadlines.expire.Goals as goal

pub loop-scope-preserved : goal.loop-scope-preserved
loop-scope-preserved c = λ q. ap (λ m. map.get m q) c.remove.ensures ∙ one_less c.args.self.now c.loop-scope.self c.deref-scope-items.result.now c.loop-scope.scope-index q c.loop-scope-test.true (c.loop-scope.invariant q)

pub returns-clause-left : goal.returns-clause-left
returns-clause-left c =
    let due = subst (λ m. IsDueInOrder m c.args.now c.in_ok-due.due.items) c.self.view_is c.in_ok-due.ensures in
    let all = take_all c.loop-scope.scope-index c.deref-scope-items.result.now c.loop-scope-test.false ∙ c.deref-scope-items.ensures.value in
    left_of_due c.args.self.now c.loop-scope.self c.args.now c.in_ok-due.due.items due
    (λ q. c.loop-scope.invariant q ∙ ap (λ xs. cond (list_any (eqb q) xs) None (map.get c.args.self.now q)) all)

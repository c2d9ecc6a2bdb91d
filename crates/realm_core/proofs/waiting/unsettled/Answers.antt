use Rattle.std.proofs.Common.{◌<◌, ◌∙◌, subst, sym}
use Rattle.realm_core.proofs.Settling.{AreMet, left, left_falls, met_busy, met_on}
use Rattle.realm_core.proofs.waiting.unsettled.Goals as goal

pub loop-next-smaller : goal.loop-next-smaller
loop-next-smaller c =
    let h = c.args.realm.now.history in
    subst (λ o. left h c.inner-next.result < left h o) (sym c.in-Some.is) (left_falls h c.in-Some.here c.inner-next.result c.inner-next.ensures)

pub loop-next-preserved : goal.loop-next-preserved
loop-next-preserved c =
    let h = c.args.realm.now.history in
    met_on h c.args.scope c.in-Some.here c.inner-next.result (subst (AreMet h c.args.scope) c.in-Some.is c.loop-next.invariant) (sym c.settled.ensures ∙ c.if-not-settled.false) c.inner-next.ensures

pub returns-then-not-settled : goal.returns-then-not-settled
returns-then-not-settled c =
    let h = c.args.realm.now.history in
    met_busy h c.args.scope c.in-Some.here (subst (AreMet h c.args.scope) c.in-Some.is c.loop-next.invariant) (sym c.settled.ensures ∙ c.if-not-settled.true)

use Rattle.realm_core.specs.{Happened, Join}
use Rattle.realm_core.proofs.Words.{refl}
use Rattle.realm_core.proofs.{Performed.answers_so, Performed.tied_after, Previewed.joins_now}
use Rattle.realm_core.proofs.state.RealmCore.join.Goals as goal

pub invariant_of-self : goal.invariant_of-self
invariant_of-self g c =
    let told_so = rw c.is_ok.ensures.value at c.tell.ensures.keeper in
    tied_after g.N.RealmName.table c.self.inside.realm c.self.inside.keeper c.self.invariant c.actor-actor.result (Happened (Join c.actor-actor.result c.args.scope)) tt c.done-joined.result _ _ (λ L h ok. record { passed = ok; recorded = refl }) (answers_so _ _ _ c.done-joined.ensures.0) c.done-joined.ensures.1 told_so

pub returns-in-Ok-clause-answer : goal.returns-in-Ok-clause-answer
returns-in-Ok-clause-answer g c =
    let made = rw (c.realm.ensures, c.actor-actor.ensures) at c.in-Ok.ensures in
    let said = rw c.actor-actor.ensures at c.done-joined.ensures.0 in
    let told_so = rw (c.is_ok.ensures.value, c.actor-actor.ensures) at c.tell.ensures.keeper in
    (rw c.tell.ensures.share refl, joins_now g.N.RealmName.table c.self.inside.realm c.self.inside.keeper c.self.invariant c.args.share.now c.tell.ensures.agreed c.args.scope c.in-Ok.preview c.done-joined.result _ c.tell.new.share made said told_so c.tell.ensures.share)

use Rattle.realm_core.specs.{Happened, Join}
use Rattle.realm_core.proofs.Words.{refl}
use Rattle.realm_core.proofs.{BareJoins.joins_bare_now, BareJoins.outcome_passes, BareJoins.refused_bare_now, Performed.answers_so, Performed.tied_after, state.RealmCore.join_bare.Goals.in-Err}
use Rattle.realm_core.proofs.{state.RealmCore.join_bare.Goals.in-Ok}
use Rattle.realm_core.proofs.state.RealmCore.join_bare.Goals as goal

pub invariant_of-self : goal.invariant_of-self
invariant_of-self g c =
    let told_so = rw c.is_ok.ensures.value at c.tell.ensures.keeper in
    tied_after g.N.RealmName.table c.self.inside.realm c.self.inside.keeper c.self.invariant c.actor-actor.result (Happened (Join c.actor-actor.result c.args.scope)) tt c.done-joined.result _ _ (λ L h ok. record { passed = ok; recorded = refl }) (answers_so _ _ _ c.done-joined.ensures.0) c.done-joined.ensures.1 told_so

pub bare_outcome-requires : goal.bare_outcome-requires
bare_outcome-requires g c =
    let said = rw c.in-Ok.is at c.done-joined.ensures.0 in
    let realm = rw c.in-Ok.is at c.done-joined.ensures.1 in
    rw (c.realm.ensures, realm) (outcome_passes c.self.inside.realm.limits c.self.inside.realm.history c.actor-actor.result c.args.scope said)

pub returns-clause-answer : goal.returns-clause-answer
returns-clause-answer g c =
    let said = rw c.actor-actor.ensures at c.done-joined.ensures.0 in
    let realm = rw c.actor-actor.ensures at c.done-joined.ensures.1 in
    let told_so = rw (c.is_ok.ensures.value, c.actor-actor.ensures) at c.tell.ensures.keeper in
    let seen = c.tell.ensures.share in
    elim c.match-joined.branch [
      | in-Ok w ↦ (
        rw seen refl,
        rw w.result-is (joins_bare_now g.N.RealmName.table c.self.inside.realm c.self.inside.keeper c.self.invariant c.args.share.now c.tell.ensures.agreed c.args.scope w.bare_outcome.result _ c.tell.new.share (rw w.in-Ok.is at said) (rw (w.realm.ensures, rw w.in-Ok.is at realm) at w.bare_outcome.ensures) (rw w.in-Ok.is at told_so) seen),
      )
      | in-Err w ↦ (
        rw seen refl,
        rw w.result-is (refused_bare_now g.N.RealmName.table c.self.inside.realm c.self.inside.keeper c.self.invariant c.args.share.now c.tell.ensures.agreed c.args.scope w.in-Err.refusal _ c.tell.new.share (rw w.in-Err.is at said) (rw w.in-Err.is at told_so) seen),
      )
    ]

use Rattle.realm_core.specs.{Retirement, base_of}
use Rattle.realm_core.proofs.Words.{refl}
use Rattle.realm_core.proofs.Performed.{base_seen, does_now, retire_passing, retired_main, tied_after}
use Rattle.realm_core.proofs.state.RealmCore.retire.Goals as goal

pub tell_retired-requires-clause-main : goal.tell_retired-requires-clause-main
tell_retired-requires-clause-main g c =
    let answer = rw c.actor.ensures at c.retire-result.ensures.0 in
    λ so. retired_main c.self.inside.realm.history c.args.share.now.actor _ c.retire-result.result answer (rw c.is_ok.ensures.value at so)

pub invariant_of-self : goal.invariant_of-self
invariant_of-self g c =
    let told_so = rw c.is_ok.ensures.value at c.tell_retired.ensures.keeper in
    tied_after g.N.RealmName.table c.self.inside.realm c.self.inside.keeper c.self.invariant c.actor.result Retirement _ c.retire-result.result _ _ (λ L h ok. retire_passing L c.actor.result h ok) c.retire-result.ensures.0 c.retire-result.ensures.1 told_so

pub returns-clause-answer : goal.returns-clause-answer
returns-clause-answer g c =
    let answer = rw c.actor.ensures at c.retire-result.ensures.0 in
    let told_so = rw c.is_ok.ensures.value at c.tell_retired.ensures.keeper in
    (rw c.tell_retired.ensures.share refl, does_now g.N.RealmName.table c.self.inside.realm c.self.inside.keeper c.self.invariant c.args.share.now c.tell_retired.ensures.agreed Retirement base_of c.retire-result.result _ c.tell_retired.new.share (λ L h ok. retire_passing L c.args.share.now.actor h ok) answer told_so c.tell_retired.ensures.share)

pub returns-clause-base : goal.returns-clause-base
returns-clause-base g c =
    let answer = rw c.actor.ensures at c.retire-result.ensures.0 in
    let told_so = rw c.is_ok.ensures.value at c.tell_retired.ensures.keeper in
    base_seen g.N.RealmName.table c.self.inside.realm c.self.inside.keeper c.self.invariant c.args.share.now c.tell_retired.ensures.agreed c.retire-result.result _ c.tell_retired.new.share answer told_so c.tell_retired.ensures.share

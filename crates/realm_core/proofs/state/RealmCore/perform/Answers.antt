-- What the realm made of the event is what the keeper was told.
use Rattle.realm_core.proofs.Words.{refl}
use Rattle.realm_core.proofs.Performed.{performed_now, recorded_fits, tied_performed}
use Rattle.realm_core.proofs.state.RealmCore.perform.Goals as goal

pub perform-result-requires : goal.perform-result-requires
perform-result-requires g c = record { fits = recorded_fits g.C.Catalog.fitting c.self.inside.realm.history c.args.share.now.actor c.args.event.now c.requires.event }

pub invariant_of-self : goal.invariant_of-self
invariant_of-self g c =
    let told_so = rw c.records.ensures at c.tell.ensures.keeper in
    tied_performed g.N.RealmName.table c.self.inside.realm c.self.inside.keeper c.self.invariant c.args.share.now.actor c.args.event.now c.perform-result.result _ _ c.perform-result.ensures.0 c.perform-result.ensures.1 told_so

pub returns-clause-answer : goal.returns-clause-answer
returns-clause-answer g c =
    let told_so = rw c.records.ensures at c.tell.ensures.keeper in
    (rw c.tell.ensures.share refl, performed_now g.N.RealmName.table c.self.inside.realm c.self.inside.keeper c.self.invariant c.args.share.now c.tell.ensures.agreed c.args.event.now c.perform-result.result _ c.tell.new.share c.perform-result.ensures.0 told_so c.tell.ensures.share)

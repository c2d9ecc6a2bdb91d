-- A fitting history goes on by an event that fits.
use Rattle.realm_state.specs.{FitsEvent, Realm}
use Rattle.realm_state.proofs.Words.{subst, sym}
use Rattle.realm_state.proofs.Growing.{fitting_after}
use Rattle.realm_state.proofs.fitting.FittingRealm.perform.Goals as goal

pub invariant_of-self : goal.invariant_of-self
invariant_of-self g c =
    let fits = subst (λ (r : Realm). FitsEvent g.C.Catalog.fitting r.history c.args.event.now) (sym c.self.view_is) c.requires.fits in
    fitting_after g.C.Catalog.fitting c.self.inside.kept c.perform.new.self c.args.event.now c.perform.result c.self.invariant fits c.perform.ensures.1

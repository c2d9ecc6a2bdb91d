-- A realm that begins with a base has no events, and so no places of them.
use Rattle.realm_state.specs.{AreTrailsOf, IsIndexOf}
use Rattle.realm_state.proofs.Words.{sym}
use Rattle.realm_state.proofs.Noted.{at_base}
use Rattle.realm_state.proofs.realm.RealmState.with_base.Goals as goal

pub invariant_of-result : goal.invariant_of-result
invariant_of-result c =
    let journal = c.in_ok-journal.ensures in (
      at_base (λ h. IsIndexOf h c.in-Ok.index) c.in_ok-journal.journal.realm c.args.limits c.args.base c.base.result.now journal c.base.ensures c.in-Ok.ensures,
      at_base (λ h. AreTrailsOf h c.new-trails.result) c.in_ok-journal.journal.realm c.args.limits c.args.base c.base-2.result.now journal c.base-2.ensures (c.new-trails.ensures.agrees c.base-2.result.now (sym c.scopes.ensures)),
    )

use Rattle.std.proofs.Common.{sym}
use Rattle.realm_state.proofs.realm.RealmState.reset.Goals as goal

pub invariant_of-self : goal.invariant_of-self
invariant_of-self c = rw c.reset-3.ensures (c.reset-2.ensures, c.reset.ensures.agrees c.args.base (sym c.scopes.ensures))

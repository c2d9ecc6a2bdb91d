-- The places so far have said their entries.
use Rattle.realm_state.proofs.Said.{AreSaid}
use Rattle.realm_state.proofs.realm.RealmState.said_at.Given as goal

abbrev pub invariant-loop-place : goal.invariant-loop-place
invariant-loop-place l = AreSaid l.self.history l.scope l.places l.place-index l.entries.items l.forked

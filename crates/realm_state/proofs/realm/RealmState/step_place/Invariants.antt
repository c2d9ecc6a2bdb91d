-- No event of the scope so far was the step.
use Rattle.realm_state.proofs.Words.{bound}
use Rattle.realm_state.proofs.StepPlaces.{Walked}
use Rattle.realm_state.proofs.realm.RealmState.step_place.Given as goal

abbrev pub invariant-loop-next : goal.invariant-loop-next
invariant-loop-next l = Walked l.self.history l.step l.scope l.next

abbrev pub decreases-loop-next : goal.decreases-loop-next
decreases-loop-next l = bound l.next

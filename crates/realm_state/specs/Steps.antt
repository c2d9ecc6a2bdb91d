-- The steps that a scope takes once at most.
use Rattle.realm_state.specs.Words.{ℕ, Bool, Event, Step, begin_mark, ends, joins, marks}
use Rattle.realm_state.specs.declared.steps.Step.TheVariants as step

-- by the event scope s takes the step
abbrev pub takes : Step → ℕ → Event → Bool
takes step.Join s e = joins s e
takes step.BeginClose s e = marks begin_mark s e
takes step.EndClose s e = ends s e

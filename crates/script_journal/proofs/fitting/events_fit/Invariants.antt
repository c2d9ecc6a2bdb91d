-- The events before the index fit.
use Rattle.std.proofs.Common.{ℕ, ◌<◌, ◌≡◌, Some, slice_get}
use Rattle.script_journal.specs.{Event, Fits}
use Rattle.script_journal.proofs.fitting.events_fit.Given as goal

abbrev pub invariant-loop-event : goal.invariant-loop-event
invariant-loop-event l = (i : ℕ) (e : Event) → i < l.event-index → slice_get l.events i ≡ Some e → Fits e

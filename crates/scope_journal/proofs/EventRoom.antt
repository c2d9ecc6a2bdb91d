-- A legal history has no more events than its load pays for.
use Rattle.std.proofs.Common.{[], ◌+◌, ◌∷◌, ◌≤◌, arith, length, length-append}
use Rattle.scope_journal.specs.{Accepts, Event, EventsFindRoom, FreeEventsFindRoom, History, Legal, Limits, Origin, followed, load, missing, owed}
use Rattle.scope_journal.proofs.Words.{along, load_push, owed_event}

-- the load pays for the base's pairs, the events, and what may still come at no cost
record IsPaid (h : History) : Type 0 where
  pub covered : length h.base.binds + (length h.events + owed h) ≤ load h

paid_base : (b : Origin) → IsPaid (record { base = b; events = [] })
unfolding load owed missing
paid_base b = record { covered = omega arith }

paid_more : (L : Limits) (h : History) (e : Event) → Legal L h → Accepts L h e → IsPaid h → IsPaid (followed h e)
paid_more L h e legal ok paid = record { covered = omega (arith, paid.covered, owed_event L h e ok, load_push h e, length-append h.events (e ∷ [])) }

-- the load with an accepted event pays for the base's pairs, the events, and that one
pub event_paid : (L : Limits) (h : History) (e : Event) → Legal L h → Accepts L h e → length h.base.binds + (length h.events + 1) ≤ load (followed h e)
event_paid L h e legal ok =
    let paid = along L IsPaid paid_base (λ g x lawful passed so. paid_more L g x lawful passed so) h legal in
    omega (arith, paid.covered, owed_event L h e ok, load_push h e)

pub events_room : EventsFindRoom
events_room L h e t legal ok loaded are = omega (arith, event_paid L h e legal ok, loaded, are.linked)

pub free_room : FreeEventsFindRoom
free_room h e t free are = omega (arith, are.loaded, load_push h e, free)

-- What holds of the places of events, and of the room for them, for every legal history.
use Rattle.std.specs.Prelude.{ℕ, ◌↔◌, ◌≡◌, Some, length, true}
use Rattle.scope_journal.specs.Words.{Accepts, Event, History, Legal, Limits, entries_from, entry_at, filter_map, followed, is_of, weight}
use Rattle.scope_journal.specs.{Places.places_of, Places.scope_of_event, TrailTable.HasEventRoom, TrailTable.TrailTable, TrailsOf.AreTrailsOf, TrailsOf.HasLoadRoom}

-- an event is of the scope that is its, and of no other
abbrev pub EventsAreOfOneScope : Type 0
EventsAreOfOneScope = (h : History) (s : ℕ) (e : Event) → is_of h s e ≡ true ↔ scope_of_event h e ≡ Some s

-- the entries of a log, its mark left out, are those of the events at the scope's places
abbrev pub EntriesAreAtPlaces : Type 0
EntriesAreAtPlaces = (h : History) (s : ℕ) → filter_map (entry_at h s) (places_of h s) ≡ entries_from h s 0 (length h.events)

-- an accepted event finds room, if there is room for the load with it
abbrev pub EventsFindRoom : Type 0
EventsFindRoom = (L : Limits) (h : History) (e : Event) (t : TrailTable) → Legal L h → Accepts L h e → HasLoadRoom (followed h e) t.room → AreTrailsOf h t → HasEventRoom t

-- there is always room for the load with an event that costs nothing
abbrev pub FreeEventsFindRoom : Type 0
FreeEventsFindRoom = (h : History) (e : Event) (t : TrailTable) → weight e ≡ 0 → AreTrailsOf h t → HasLoadRoom (followed h e) t.room

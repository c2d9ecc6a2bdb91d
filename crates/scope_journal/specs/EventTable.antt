-- What a list of events is: the events, and its room. And what ties it to its codes.
use Rattle.std.specs.Prelude.{[], ℕ, ◌++◌, ◌-◌, ◌<◌, ◌∷◌, ◌≡◌, ◌≤◌, List, length, map}
use Rattle.scope_journal.specs.Words.{Code, Event, weight}
use Rattle.scope_journal.specs.Codes.{AreAtMost, EntryTable, HaveEntries, event_of}

pub record EventTable : Type 0 where
  pub events : List Event
  -- how many events that cost nothing it takes without memory, those that are there counted
  pub room : ℕ
  -- how much load its next events may have so that their entries find room
  pub spare : ℕ

-- the events that the codes say
abbrev pub events_said : EntryTable → List Code → List Event
events_said t cs = map (event_of t) cs

-- each code has its entry, and there are no more entries than codes
pub record AreCodes (t : EntryTable) (cs : List Code) : Type 0 where
  pub there : HaveEntries t cs
  pub few : AreAtMost t (length cs)

-- the list takes the event without memory
pub record HasRoom (t : EventTable) (e : Event) : Type 0 where
  pub events : length t.events < t.room
  pub spare : weight e ≤ t.spare

-- the same events, and no less room
pub record HasMoreEventRoom (t u : EventTable) : Type 0 where
  pub events : u.events ≡ t.events
  pub room : t.room ≤ u.room
  pub spare : t.spare ≤ u.spare

-- the event stands behind the others, and took no more room than it costs
pub record IsPushed (t : EventTable) (e : Event) (u : EventTable) : Type 0 where
  pub events : u.events ≡ t.events ++ e ∷ []
  pub room : u.room ≡ t.room
  pub spare : t.spare - weight e ≤ u.spare

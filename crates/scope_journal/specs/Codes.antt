-- What a code says, with the lists that have its entry.
use Rattle.std.specs.Prelude.{[], ℕ, ◌+◌, ◌-◌, ◌<◌, ◌∷◌, ◌≡◌, ◌≤◌, Err, List, None, Ok, Option, Some, length, slice_get}
use Rattle.scope_journal.specs.Words.{Code, Event, Label, Name, Num, Text, weight}
use Rattle.scope_rules.specs.declared.types.events.Event.TheVariants as event
use Rattle.scope_journal.specs.declared.codes.Code.TheVariants as code

-- the entries of the codes
pub record EntryTable : Type 0 where
  pub wides : List Event
  pub labels : List Label
  pub names : List Name
  -- how many names it takes without memory, those that are there counted
  pub name_room : ℕ
  -- how many more wide events, and how many more labels, it takes without memory
  pub spare : ℕ

-- what is said by an entry; without one, a tick
abbrev pub by_entry : {X : Type 0} → (X → Event) → Option X → Event
by_entry say None = event.Tick 0
by_entry say (Some x) = say x

-- the event of the code
abbrev pub event_of : EntryTable → Code → Event
event_of t (code.Wide at) = by_entry (λ e. e) (slice_get t.wides at)
event_of t (code.Fork actor scope at) = by_entry (λ label. event.Fork actor scope label) (slice_get t.labels at)
event_of t (code.Reject task) = event.Reject task
event_of t (code.Start task) = event.Start task
event_of t (code.Number task value) = event.Finish task (Ok (Num value))
event_of t (code.Text task at) = by_entry (λ name. event.Finish task (Ok (Text name))) (slice_get t.names at)
event_of t (code.Fail task at) = by_entry (λ name. event.Finish task (Err (record { 0 = name }))) (slice_get t.names at)
event_of t (code.Cancel scope) = event.Cancel scope
event_of t (code.Move scope deadline) = event.Move scope (Some deadline)
event_of t (code.MoveAway scope) = event.Move scope None
event_of t (code.Tick now) = event.Tick now
event_of t (code.Unbind actor) = event.Unbind actor
event_of t (code.Join actor scope) = event.Join actor scope
event_of t (code.BeginClose actor scope) = event.BeginClose actor scope
event_of t (code.EndClose actor scope) = event.EndClose actor scope

-- the code's entry is there, if it has one
abbrev pub HasEntry : EntryTable → Code → Type 0
HasEntry t (code.Wide at) = at < length t.wides
HasEntry t (code.Fork actor scope at) = at < length t.labels
HasEntry t (code.Text task at) = at < length t.names
HasEntry t (code.Fail task at) = at < length t.names
HasEntry t _ = Unit {0}

-- each code's entry is there
abbrev pub HaveEntries : EntryTable → List Code → Type 0
HaveEntries t [] = Unit {0}
HaveEntries t (c ∷ cs) = HasEntry t c × HaveEntries t cs

-- the entry is at this place of the list
abbrev pub IsPlaced : {X : Type 0} → List X → ℕ → X → Type 0
IsPlaced xs place x = slice_get xs place ≡ Some x

-- the entry is the last of the list
abbrev pub IsLast : {X : Type 0} → List X → X → Type 0
IsLast xs x = IsPlaced xs (length xs - 1) x

-- the same entries, and no less room
pub record HasMoreRoom (t u : EntryTable) : Type 0 where
  pub wides : u.wides ≡ t.wides
  pub labels : u.labels ≡ t.labels
  pub names : u.names ≡ t.names
  pub name_room : t.name_room ≤ u.name_room
  pub spare : t.spare ≤ u.spare

-- no list has more entries than so many
pub record AreAtMost (t : EntryTable) (count : ℕ) : Type 0 where
  pub wides : length t.wides ≤ count
  pub labels : length t.labels ≤ count
  pub names : length t.names ≤ count

-- the entries t became u: each code that had its entry has it still, and says the same; no list grew by
-- more than one entry, and these found room for as much load as the event costs
pub record Keeps (t : EntryTable) (cost : ℕ) (u : EntryTable) : Type 0 where
  pub kept : (c : Code) → HasEntry t c → HasEntry u c × (event_of u c ≡ event_of t c)
  pub wides : length u.wides ≤ length t.wides + 1
  pub labels : length u.labels ≤ length t.labels + 1
  pub names : length u.names ≤ length t.names + 1
  pub name_room : u.name_room ≡ t.name_room
  pub spare : t.spare - cost ≤ u.spare

-- the code says the event, and what was said before stands
pub record Codes (t : EntryTable) (e : Event) (c : Code) (u : EntryTable) : Type 0 where
  pub says : event_of u c ≡ e
  pub there : HasEntry u c
  pub keeps : Keeps t (weight e) u

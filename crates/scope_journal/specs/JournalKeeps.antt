-- What a journal is: its realm, and its room. And what it keeps true of them.
use Rattle.std.specs.Prelude.{ℕ, ◌+◌, ◌-◌, ◌≡◌, ◌≤◌, Err, Ok, Result, length}
use Rattle.scope_journal.specs.Words.{History, IsWithin, Legal, Limits, Realm, Refusal, load, owed}
use Rattle.scope_journal.specs.EventTable.{EventTable}

-- the realm, and how many units of load its next events may cost without memory
pub record JournalTable : Type 0 where
  pub realm : Realm
  pub spare : ℕ

-- the realm of the journal that was answered
abbrev pub realm_given : Result JournalTable Refusal → Result Realm Refusal
realm_given (Ok j) = Ok j.realm
realm_given (Err r) = Err r

-- its history is legal and within the limits, the units are its load, and there is room for that, which
-- covers what is there and what may still come at no cost
pub record JournalKeeps (L : Limits) (h : History) (capacity units : ℕ) : Type 0 where
  pub legal : Legal L h
  pub within : IsWithin L h
  pub covered : length h.events + owed h ≤ load h
  pub room : load h ≤ capacity
  pub counted : units ≡ load h

-- the list of the events has room for so much load, of which so many units are used
pub record HasLoadReserved (t : EventTable) (reserved units : ℕ) : Type 0 where
  pub room : reserved ≤ t.room
  pub spare : reserved - units ≤ t.spare

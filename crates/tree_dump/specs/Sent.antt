-- What a serializer is sent for the members of an object.
use Rattle.std.specs.Prelude.{ℕ, ◌≡◌, List, None, Option, Some, codes, option_map}
use Rattle.tree_dump.specs.Terms.{AsIs, Data, Log, Logs, SendsValue, TaskTimes, field_key}
use Rattle.tree_dump.specs.Objects.{number_or_null}

-- the key, and then the value
abbrev pub SendsMember : List ℕ → Data → Log → Log → Type 0
SendsMember key value old new = (named : Log) × Logs old named (field_key key AsIs) × SendsValue value named new

-- nothing, or else the member
abbrev pub SendsMore : List ℕ → Option Data → Log → Log → Type 0
SendsMore key None old new = new ≡ old
SendsMore key (Some value) old new = SendsMember key value old new

-- the member that says since when, if the dump tells times
abbrev pub SendsSince : Option (Option ℕ) → Log → Log → Type 0
SendsSince since old new = SendsMore (codes "since") (option_map number_or_null since) old new

-- how many members a task's object has, and a scope's: with times more than without
abbrev pub task_members : Option TaskTimes → ℕ
task_members None = 5
task_members (Some times) = 8

abbrev pub scope_members : Option (Option ℕ) → ℕ
scope_members None = 11
scope_members (Some since) = 12

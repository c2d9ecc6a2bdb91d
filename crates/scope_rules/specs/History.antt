-- A history: what it begins with, and the events since. A prefix keeps the base.
use Rattle.std.specs.Prelude.{[], ℕ, ◌++◌, ◌+◌, ◌<◌, ◌==◌, ◌^◌, ◌∷◌, Bool, List, None, Option, Some, count_by, false, if◌then◌else◌, length, slice_get, take, true, unwrap_or}
use Rattle.scope_rules.specs.Words.{Event, Fork, Forking, Opening, Tick, option_and_then, range_with_len}
use Rattle.scope_rules.specs.{Origin.Origin, Search.earliest, Search.last_of, declared.types.events.Event.TheVariants.Open}

pub record History : Type 0 where
  pub base : Origin
  pub events : List Event

-- the events before place i
abbrev pub before : History → ℕ → History
before h i = record { base = h.base; events = take i h.events }

-- one more event
abbrev pub followed : History → Event → History
followed h e = record { base = h.base; events = h.events ++ e ∷ [] }

abbrev pub is_open : Event → Bool
is_open (Open actor policy options) = true
is_open _ = false

abbrev pub is_fork : Event → Bool
is_fork (Fork actor scope label) = true
is_fork _ = false

-- how many scopes were opened since the base, and the number of the last
abbrev pub opened_count : History → ℕ
opened_count h = count_by is_open h.events

abbrev pub scopes : History → ℕ
scopes h = h.base.scopes + opened_count h

-- how many tasks were forked since the base, and the number of the last
abbrev pub forked_count : History → ℕ
forked_count h = count_by is_fork h.events

abbrev pub tasks : History → ℕ
tasks h = h.base.tasks + forked_count h

abbrev pub opening_of : ℕ → Event → Option Opening
opening_of i (Open actor policy options) = Some (record { place = i; actor = actor; policy = policy; options = options })
opening_of i _ = None

abbrev pub forking_of : ℕ → Event → Option Forking
forking_of i (Fork actor scope label) = Some (record { place = i; actor = actor; scope = scope; label = label })
forking_of i _ = None

-- the event at place i, if it is of the kind, and the one that gets number n; the numbers begin after `start`
abbrev pub numbered_at : {R : Type 0} → (Event → Bool) → (ℕ → Event → Option R) → ℕ → List Event → ℕ → ℕ → Option R
numbered_at kind shown start events n i = if start + count_by kind (take i events) + 1 == n then option_and_then (shown i) (slice_get events i) else None

-- the opening of scope s: the Open that gave that number
unfoldable pub opening : History → ℕ → Option Opening
opening h s = earliest (numbered_at is_open opening_of h.base.scopes h.events s) (length h.events)

-- the forking of task k: the Fork that gave that number
unfoldable pub forking : History → ℕ → Option Forking
forking h k = earliest (numbered_at is_fork forking_of h.base.tasks h.events k) (length h.events)

abbrev pub tick_of : Event → Option ℕ
tick_of (Tick now) = Some now
tick_of _ = None

-- the moment: that of the last tick
unfoldable pub moment : History → ℕ
moment h = unwrap_or (last_of tick_of h.events) h.base.moment

-- the numbers of scopes since the base
abbrev pub scope_numbers : History → List ℕ
scope_numbers h = range_with_len (h.base.scopes + 1) (opened_count h)

-- the numbers of tasks since the base
abbrev pub task_numbers : History → List ℕ
task_numbers h = range_with_len (h.base.tasks + 1) (forked_count h)

-- its places and its numbers fit 32 bits
pub record HasSmallNumbers (h : History) : Type 0 where
  pub events : length h.events < 2 ^ 32
  pub scopes : scopes h < 2 ^ 32
  pub tasks : tasks h < 2 ^ 32

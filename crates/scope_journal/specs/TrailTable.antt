-- What is kept of the places of events: beside each event that of the event of the same scope before it,
-- and for each scope that of its last. And how a call changes that.
use Rattle.std.specs.Prelude.{[], ℕ, ◌++◌, ◌-◌, ◌<◌, ◌∷◌, List, None, Option, Some, if◌then◌else◌, length, nat_lt, slice_get, slice_index, suc, zero}
use Rattle.scope_journal.specs.Words.{IsNumbered, altered, option_and_then, place_of}

pub record TrailTable : Type 0 where
  -- how many scopes were numbered before
  pub before : ℕ
  -- beside each event the place of the event of the same scope before it, or its own if there is none
  pub links : List ℕ
  -- the place of the last event of each scope, in order of the scopes' numbers
  pub lasts : List ℕ
  -- how many events it takes without memory, those that are there counted
  pub room : ℕ
  -- how many more scopes it takes without memory
  pub spare : ℕ

-- the scope has a trail
abbrev pub HasTrail : TrailTable → ℕ → Type 0
HasTrail t s = IsNumbered t.before t.lasts s

-- there is room for one event more
abbrev pub HasEventRoom : TrailTable → Type 0
HasEventRoom t = length t.links < t.room

-- the place of the scope's last event
abbrev pub last_in : TrailTable → ℕ → ℕ
last_in t s = slice_index t.lasts (place_of t.before s)

-- the link, if it leads back from place i
abbrev pub if_back : ℕ → ℕ → Option ℕ
if_back i link = if nat_lt link i then Some link else None

-- the place before place i on its trail, if there is one
abbrev pub back : List ℕ → ℕ → Option ℕ
back links i = option_and_then (if_back i) (slice_get links i)

-- the trail up to a place, or of none, the earliest first, if it has at most so many places: the
-- trail up to the place before it, and then the place
abbrev pub trail_of : ℕ → List ℕ → Option ℕ → List ℕ
trail_of zero links place = []
trail_of (suc most) links None = []
trail_of (suc most) links (Some i) = trail_of most links (back links i) ++ i ∷ []

-- the trail up to place i. Each place leads to an earlier one, so there are no more than the places up
-- to i.
abbrev pub trail_to : List ℕ → ℕ → List ℕ
trail_to links i = trail_of (suc i) links (Some i)

-- the places of the scope's events, the earliest first
unfoldable pub trail_in : TrailTable → ℕ → List ℕ
trail_in t s = trail_to t.links (last_in t s)

-- the table of no events and no scopes
abbrev pub no_trails : ℕ → TrailTable
no_trails before = record { before = before; links = []; lasts = []; room = 0; spare = 0 }

-- one event more, which opens the next scope
abbrev pub with_open : TrailTable → TrailTable
with_open t = record t { links = t.links ++ length t.links ∷ []; lasts = t.lasts ++ length t.links ∷ []; spare = t.spare - 1 }

-- the scope's last event is at place i
abbrev pub with_last : TrailTable → ℕ → ℕ → TrailTable
with_last t s i = record t { lasts = altered (λ was. i) t.lasts (place_of t.before s) }

-- one event more, of this scope or of none, which opens none
abbrev pub with_event : TrailTable → Option ℕ → TrailTable
with_event t (Some s) = record (with_last t s (length t.links)) { links = t.links ++ last_in t s ∷ [] }
with_event t None = record t { links = t.links ++ length t.links ∷ [] }

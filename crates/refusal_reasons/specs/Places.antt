-- By which event a scope came to stand as it does. Places are counted from 0 since the base, events from 1.
use Rattle.std.specs.Prelude.{if◌then◌else◌}
use Rattle.refusal_reasons.specs.Words.{ℕ, Bool, Event, History, List, None, Option, Some, begin_mark, closing_at, earliest, ends, find, is_settled, joins, length, marks, min, nat_lt}
use Rattle.refusal_reasons.specs.Words.{not, position, stage, tasks_of}

-- the place, if the test holds of it
abbrev pub place_if : (ℕ → Bool) → ℕ → Option ℕ
place_if test i = if test i then Some i else None

-- the first of n places of which the test holds
unfoldable pub first_place : (ℕ → Bool) → ℕ → Option ℕ
first_place test n = earliest (place_if test) n

-- the place of the event that began a close that covers scope s, the first such
unfoldable pub closing_place : History → ℕ → Option ℕ
closing_place h s = first_place (closing_at h s) (length h.events)

-- the place of the event that closed scope s
abbrev pub closed_place : List Event → ℕ → Option ℕ
closed_place events s = position (ends s) events

-- the place of the event that began the close of scope s itself
abbrev pub begun_place : List Event → ℕ → Option ℕ
begun_place events s = position (marks begin_mark s) events

-- the place of the event that joined scope s
abbrev pub joined_place : List Event → ℕ → Option ℕ
joined_place events s = position (joins s) events

-- the place, if it comes after place i
abbrev pub if_after : ℕ → Option ℕ → Option ℕ
if_after i None = None
if_after i (Some place) = if nat_lt i place then Some place else None

-- the earlier of two places
abbrev pub earlier : Option ℕ → Option ℕ → Option ℕ
earlier None right = right
earlier (Some left) None = Some left
earlier (Some left) (Some right) = Some (min left right)

-- task k waits or runs
abbrev pub is_pending : History → ℕ → Bool
is_pending h k = not (is_settled (stage h k))

-- the first task of scope s that waits or runs
unfoldable pub pending_task : History → ℕ → Option ℕ
pending_task h s = find (is_pending h) (tasks_of h s)

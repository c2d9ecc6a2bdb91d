-- The clock of a tree, by the readings of its events.
use Rattle.std.specs.Prelude.{[], ℕ, ◌+◌, ◌∷◌, List, None, Some, get_or, length, map, min}
use Rattle.tree_dump.specs.Terms.{History, KeptAges, end_times, fork_times, open_times, range_with_len, start_times}
use Rattle.tree_dump.specs.Ages.{Clock, no_clock}

abbrev pub clock_kept : KeptAges → Clock
clock_kept k = record { now = k.last; forked = k.forked.items; started = k.started.items; ended = k.ended.items; opened = k.opened.items; main = None; waits = [] }

-- by the readings of the events, and the last of all: without readings there is none
abbrev pub clock_by : History → List ℕ → ℕ → Clock
clock_by h [] last = no_clock
clock_by h (t ∷ times) last = record { now = Some last; forked = fork_times h (t ∷ times); started = start_times h (t ∷ times); ended = end_times h (t ∷ times); opened = open_times h (t ∷ times); main = None; waits = [] }

-- a time in 32 bits: no later than can be told
abbrev pub small : ℕ → ℕ
small time = min time 4294967295

-- the time of the event at the place, if it is known, or else that of now
unfoldable pub stamp_at : List ℕ → ℕ → ℕ → ℕ
stamp_at times now place = small (get_or times place now)

unfoldable pub stamps_to : List ℕ → ℕ → ℕ → List ℕ
stamps_to times now count = map (stamp_at times now) (range_with_len 0 count)

-- by the times of the events, as far as they are known: the others happened by now
abbrev pub known_clock : History → List ℕ → ℕ → Clock
known_clock h times now = clock_by h (stamps_to times now (length h.events + 1)) (small now)

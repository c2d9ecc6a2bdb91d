-- Where the mark of a cancellation is among what the events at a scope's places say.
use Rattle.std.specs.Prelude.{option_map}
use Rattle.scope_journal.specs.Words.{ℕ, Bool, Cause, History, List, LogEntry, None, Option, Some, cancelled_at, cause, count_by, insert, nat_le, option_and_then}
use Rattle.scope_log.specs.declared.entries.LogEntry.TheVariants as entry

-- the place of the event by which scope s became cancelled, and why, if it is
abbrev pub cancel_of : History → ℕ → Option (ℕ × Cause)
cancel_of h s = option_and_then (λ at. option_map (λ c. (at, c)) (cause h s)) (cancelled_at h s)

-- the place is no later than this one
abbrev pub is_up_to : ℕ → ℕ → Bool
is_up_to at i = nat_le i at

-- how many of the places are no later than this one
abbrev pub up_to : ℕ → List ℕ → ℕ
up_to at ps = count_by (is_up_to at) ps

-- the entries, one for each of the places, with the mark after those of the places up to the cancel
abbrev pub marked : List ℕ → Option (ℕ × Cause) → List LogEntry → List LogEntry
marked ps None es = es
marked ps (Some m) es = insert es (up_to m.0 ps) (entry.Cancelled m.1)

-- The log of a scope: the events that name it or a task of it, in order, and the mark of its
-- cancellation, where it became cancelled.
use Rattle.std.specs.Prelude.{[], ℕ, ◌+◌, ◌==◌, Bool, List, None, Option, Some, false, if◌then◌else◌, length, option_map, slice_get}
use Rattle.scope_log.specs.Words.{BeginClose, Cancel, Cause, EndClose, Event, Expiry, Finish, Fork, History, Join, LogEntry, Move, Open, Policy, Reject, Start, before, cancelled_at, cause, cons_option, flat_map, followed}
use Rattle.scope_log.specs.Words.{is_cancelled, is_task_of, opening, option_and_then, range_with_len, scopes, tasks}
use Rattle.scope_log.specs.declared.entries.LogEntry.TheVariants as entry

-- a scope's number, its joiner, what its deadline means for the join, and the entries
pub record LogValue : Type 0 where
  pub scope : ℕ
  pub policy : Policy
  pub expiry : Expiry
  pub entries : List LogEntry

-- the event, the next after h, names scope s or a task of it: an open if it gives that number. A
-- bind, an unbind and a tick name no scope, and who acts does not matter.
abbrev pub is_of : History → ℕ → Event → Bool
is_of h s (Open actor policy options) = scopes h + 1 == s
is_of h s (Fork actor scope label) = scope == s
is_of h s (Reject task) = is_task_of h s task
is_of h s (Start task) = is_task_of h s task
is_of h s (Finish task end) = is_task_of h s task
is_of h s (Cancel scope) = scope == s
is_of h s (Move scope deadline) = scope == s
is_of h s (Join actor scope) = scope == s
is_of h s (BeginClose actor scope) = scope == s
is_of h s (EndClose actor scope) = scope == s
is_of h s _ = false

-- what the event says in the log of its scope; k is the number that a fork gives
abbrev pub said_with : ℕ → Event → Option LogEntry
said_with k (Open actor policy options) = Some (entry.Open actor policy options)
said_with k (Fork actor scope label) = Some (entry.Fork k actor label)
said_with k (Reject task) = Some (entry.Reject task)
said_with k (Start task) = Some (entry.Start task)
said_with k (Finish task end) = Some (entry.Finish task end)
said_with k (Cancel scope) = Some entry.Cancel
said_with k (Move scope deadline) = Some (entry.Move deadline)
said_with k (Join actor scope) = Some (entry.Join actor)
said_with k (BeginClose actor scope) = Some (entry.BeginClose actor)
said_with k (EndClose actor scope) = Some (entry.EndClose actor)
said_with k _ = None

-- the same of the event, the next after h
abbrev pub said : History → Event → Option LogEntry
said h e = said_with (tasks h + 1) e

-- the entry of the event, the next after h, in the log of scope s
abbrev pub entry_of : History → ℕ → Event → Option LogEntry
entry_of h s e = if is_of h s e then said h e else None

-- the entry of the event at place i
abbrev pub entry_at : History → ℕ → ℕ → Option LogEntry
entry_at h s i = option_and_then (entry_of (before h i) s) (slice_get h.events i)

-- the mark of the cancellation
abbrev pub mark_of : Option Cause → Option LogEntry
mark_of cause = option_map (λ c. entry.Cancelled c) cause

-- the mark, where scope s became cancelled at place i
abbrev pub mark_at : History → ℕ → ℕ → Option LogEntry
mark_at h s i = option_and_then (λ at. if at == i then mark_of (cause h s) else None) (cancelled_at h s)

-- what is in the log for place i: the entry of its event, and after it the mark
abbrev pub entries_at : History → ℕ → ℕ → List LogEntry
entries_at h s i = cons_option (entry_at h s i) (cons_option (mark_at h s i) [])

-- the entries of scope s, in order of their places
unfoldable pub entries : History → ℕ → List LogEntry
entries h s = flat_map (entries_at h s) (range_with_len 0 (length h.events))

-- the log of scope s, if it was opened since the base
unfoldable pub log : History → ℕ → Option LogValue
log h s = option_map (λ o. record { scope = s; policy = o.policy; expiry = o.options.expiry; entries = entries h s }) (opening h s)

-- the mark after the event, the next after h: where scope s becomes cancelled by it
abbrev pub mark_next : History → Event → ℕ → Option LogEntry
mark_next h e s = if is_cancelled h s then None else mark_of (cause (followed h e) s)

-- what the event, the next after h, adds to the entries of scope s
abbrev pub entries_next : History → Event → ℕ → List LogEntry
entries_next h e s = cons_option (entry_of h s e) (cons_option (mark_next h e s) [])

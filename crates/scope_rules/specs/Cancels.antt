-- What cancels a scope: its own cancel, and the earliest own cancel on its chain.
use Rattle.std.specs.Prelude.{ℕ, ◌&&◌, ◌+◌, ◌==◌, Bool, None, Option, Some, false, if◌then◌else◌, is_some, length, max, nat_le, nat_lt, not, option_map, slice_get}
use Rattle.scope_rules.specs.Words.{BeginClose, Call, Cancel, Cause, CauseKind, Close, Deadline, Effective, Event, FirstCancel, Joiner, Move, OwnCancel, option_and_then, option_map_or, option_or}
use Rattle.scope_rules.specs.{Chains.effective_by, Chains.first_cancel_by, Completions.completes, Completions.completions, History.History, History.before, History.moment, History.opening, Joining.fires, Scopes.covers}
use Rattle.scope_rules.specs.{Scopes.joined, Scopes.outer, Search.earliest, Search.last_of}

abbrev pub move_of : ℕ → Event → Option (Option ℕ)
move_of s (Move scope deadline) = if scope == s then Some deadline else None
move_of s _ = None

-- the deadline of scope s: that of its last move, or else of its opening
unfoldable pub deadline : History → ℕ → Option ℕ
deadline h s = option_map_or (λ d. d) (last_of (move_of s) h.events) (option_and_then (λ o. o.options.deadline) (opening h s))

-- scope s isn't joined, and its deadline is at or before the moment
unfoldable pub overdue : History → ℕ → Bool
overdue h s = not (joined h s) && option_map_or (λ d. nat_le d (moment h)) (deadline h s) false

-- what the event, after h, does to scope s by itself
abbrev pub direct_kind : History → ℕ → Event → Option CauseKind
direct_kind h s (Cancel scope) = if scope == s then Some Call else None
direct_kind h s (BeginClose actor scope) = if covers h scope s then Some Close else None
direct_kind h s _ = None

-- the joiner of scope s fires at the event, the last of h
unfoldable pub joiner_fires : History → ℕ → Event → Bool
joiner_fires h s e = completes h s e && option_map_or (λ o. fires o.policy (completions h s)) (opening h s) false

-- what gives scope s its own cancel at the event e, which is in h at place i
abbrev pub kind_by : History → ℕ → ℕ → Event → Option CauseKind
kind_by h s i e = option_or (direct_kind (before h i) s e)
    (if joiner_fires (before h (i + 1)) s e then Some Joiner else (if overdue (before h (i + 1)) s then Some Deadline else None))

-- the same, once the scope is there
unfoldable pub own_at : History → ℕ → ℕ → Option OwnCancel
own_at h s i = if is_some (opening (before h (i + 1)) s) then option_and_then (λ e. option_map (λ k. record { place = i; kind = k }) (kind_by h s i e)) (slice_get h.events i) else None

-- the own cancel of scope s: at the first event, not before its opening, that gives it one
unfoldable pub own : History → ℕ → Option OwnCancel
own h s = earliest (own_at h s) (length h.events)

-- the own cancel of scope s, as a cause
abbrev pub own_cancel : History → ℕ → Option FirstCancel
own_cancel h s = option_map (λ w. record { place = w.place; cause = record { scope = s; kind = w.kind } }) (own h s)

-- the earliest own cancel on the chain of scope s, the nearest on a tie, with its place
unfoldable pub first_cancel : History → ℕ → Option FirstCancel
first_cancel h s = first_cancel_by (outer h) (own_cancel h) s

-- why scope s is cancelled
unfoldable pub cause : History → ℕ → Option Cause
cause h s = option_map (λ c. c.cause) (first_cancel h s)

unfoldable pub is_cancelled : History → ℕ → Bool
is_cancelled h s = is_some (first_cancel h s)

-- the place of the event by which scope s became cancelled, not before its opening
unfoldable pub cancelled_at : History → ℕ → Option ℕ
cancelled_at h s = option_and_then (λ o. option_map (λ c. max o.place c.place) (first_cancel h s)) (opening h s)

-- scope s became cancelled before place i
unfoldable pub cancelled_before : History → ℕ → ℕ → Bool
cancelled_before h s i = option_map_or (λ at. nat_lt at i) (cancelled_at h s) false

-- the deadline of scope s, while it counts: until the scope is joined
unfoldable pub counting_deadline : History → ℕ → Option ℕ
counting_deadline h s = if joined h s then None else deadline h s

-- the earliest deadline in effect for scope s
unfoldable pub effective : History → ℕ → Effective
effective h s = effective_by (outer h) (own_cancel h) (counting_deadline h) s

-- Which cancels a task reports.
use Rattle.std.specs.Prelude.{ℕ, ◌&&◌, ◌≡◌, Bool, None, Option, Some, false, nat_lt, true}
use Rattle.balkreyn.specs.Words.{All, Call, Cancelled, Cause, CauseKind, Close, Contains, Deadline, Done, Empty, Happening, Joiner, Outcome, Told}

-- whether the scope was opened by a task that was forked in this one: by main, which was forked in none, all that it can
-- see, and by another those that are later
abbrev pub is_own : Option ℕ → ℕ → Bool
is_own None s = true
is_own (Some around) s = nat_lt around s

-- whether a task reports a cancel of this kind: one by a call is reported by its caller alone, one by a joiner or a deadline
-- by the owner of the scope, and one by a close by each task that sees it
abbrev pub is_to_tell : (owns : Bool) → CauseKind → Bool
is_to_tell owns Call = false
is_to_tell owns Close = true
is_to_tell owns Joiner = owns
is_to_tell owns Deadline = owns

-- whether a task reports a cancel for this cause, if it hasn't yet: there is an observer, and it is its to report
abbrev pub tells : Told → Cause → Bool
tells told cause = told.hears && is_to_tell (is_own told.around cause.scope) cause.kind

-- what a task reports when it sees a cancel for this cause: that very cancel, if it is to and hasn't yet; else nothing, and
-- all stays as it was
abbrev pub Tells : Told → Told → Cause → Option Happening → Type 0
Tells old new cause None = (new ≡ old) × (tells old cause ≡ true → Contains old.scopes.items cause.scope)
Tells old new cause (Some what) = (what ≡ Cancelled cause.scope cause.kind) × (tells old cause ≡ true) × (Contains old.scopes.items cause.scope → ⊥) × (new.around ≡ old.around) × (new.hears ≡ old.hears)

-- what a task reports if it sees a cancel for such a cause, or none
abbrev pub TellsOf : Told → Told → Option Cause → Option Happening → Type 0
TellsOf old new None result = (result ≡ None) × (new ≡ old)
TellsOf old new (Some cause) result = Tells old new cause result

-- why a scope with this outcome was cancelled, by its log: not at all, if all its tasks were waited for and none failed
abbrev pub cause_behind : Outcome → Option Cause → Option Cause
cause_behind (All values) logged = None
cause_behind Done logged = None
cause_behind Empty logged = None
cause_behind _ logged = logged

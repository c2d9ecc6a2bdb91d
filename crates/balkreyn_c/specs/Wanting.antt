-- Queries whose answer the history does not give by one number.
use Rattle.std.specs.Prelude.{ℕ, ℤ, ◌≡◌, ◌⊎◌, Err, List, None, Ok, Option, Result, Some, pos, slice_get}
use Rattle.balkreyn_c.specs.Words.{Counts, History, IsCancelOrderOf, IsNextDeadline, NoDeadlineComes, Refusal, TaskCounts, TimedRealm}
use Rattle.balkreyn_c.specs.Numbers.{no_realm, some_number}

abbrev pub counts_written : Result Counts Refusal → TaskCounts → TaskCounts
counts_written (Ok c) old = record { never = c.never; waiting = c.waiting; running = c.running; finished = c.finished }
counts_written (Err r) old = old

-- 1 of a moment, which is written, and 0 of none
abbrev pub next_number : Option ℕ → ℤ
next_number None = pos 0
next_number (Some deadline) = pos 1

abbrev pub next_written : Option ℕ → ℕ → ℕ
next_written None old = old
next_written (Some deadline) old = deadline

-- the number goes with a deadline that comes next, or with none
pub record Comes (h : History) (answer : ℤ) (new : ℕ) : Type 0 where
  pub number : answer ≡ pos 1
  pub deadline : IsNextDeadline h new

pub record NoneComes (h : History) (answer : ℤ) (old new : ℕ) : Type 0 where
  pub number : answer ≡ pos 0
  pub none : NoDeadlineComes h
  pub kept : new ≡ old

pub record NoneAsked (answer : ℤ) (old new : ℕ) : Type 0 where
  pub number : answer ≡ no_realm
  pub kept : new ≡ old

abbrev pub NextDeadline : Option TimedRealm → ℤ → ℕ → ℕ → Type 0
NextDeadline None answer old new = NoneAsked answer old new
NextDeadline (Some timed) answer old new = Comes timed.realm.history answer new ⊎ NoneComes timed.realm.history answer old new

-- the n-th of the cancelled scopes in order of their cancellation
pub record IsNth (h : History) (n : ℕ) (answer : ℤ) : Type 0 where
  pub list : List ℕ
  pub order : IsCancelOrderOf h list
  pub number : answer ≡ some_number (slice_get list n)

abbrev pub NthCancelled : Option TimedRealm → ℕ → ℤ → Type 0
NthCancelled None n answer = answer ≡ no_realm
NthCancelled (Some timed) n answer = IsNth timed.realm.history n answer

-- What the list of steps says of a task. It is read by position in the whole list, so that nothing is
-- numbered anew if the realm is retired.
use Rattle.std.specs.Prelude.{[], ℕ, ◌&&◌, ◌-◌, ◌==◌, ◌∷◌, Bool, List, None, Option, Some, count_by, false, if◌then◌else◌, is_some, not}
use Rattle.share_ledger.specs.Words.{Asked, EndValue, Event, Finish, Fork, Happened, History, Label, RealmStep, Retirement, is_cancelled, is_fork, list_any, option_or, rejects, starts}
use Rattle.share_ledger.specs.Steps.{advance, asked, fresh}

-- the step is an event that passes the test
abbrev pub is_event : (Event → Bool) → RealmStep → Bool
is_event test (Happened e) = test e
is_event test (Asked actor q) = test (asked q)
is_event test Retirement = false

-- how many tasks were forked, and the number of the last
abbrev pub forks : List RealmStep → ℕ
forks xs = count_by (is_event is_fork) xs

-- what a task that gets a thread was forked with
pub record Grant : Type 0 where
  pub scope : ℕ
  pub label : Label

-- what the fork after h gives: a thread, unless the scope is cancelled by then
abbrev pub grant_of : History → RealmStep → Option Grant
grant_of h (Happened (Fork actor scope label)) = if is_cancelled h scope then None else Some (record { scope = scope; label = label })
grant_of h _ = None

-- what the n-th fork of these steps gave, the first of which come after h
abbrev pub granted : History → ℕ → List RealmStep → Option Grant
granted h n [] = None
granted h n (x ∷ xs) = if is_event is_fork x then (if n == 1 then grant_of h x else granted (advance h x) (n - 1) xs) else granted (advance h x) n xs

-- what task k was forked with, if it got a thread
unfoldable pub grant_in : ℕ → List RealmStep → Option Grant
grant_in k xs = granted fresh k xs

-- the reject of task k is in the list
unfoldable pub rejected_in : ℕ → List RealmStep → Bool
rejected_in k xs = list_any (is_event (rejects k)) xs

-- the start of task k is in the list
unfoldable pub started_in : ℕ → List RealmStep → Bool
started_in k xs = list_any (is_event (starts k)) xs

abbrev pub end_of : ℕ → RealmStep → Option EndValue
end_of k (Happened (Finish task end)) = if task == k then Some end else None
end_of k _ = None

-- how task k ended
unfoldable pub end_in : ℕ → List RealmStep → Option EndValue
end_in k [] = None
end_in k (x ∷ xs) = option_or (end_of k x) (end_in k xs)

-- task k was given a thread: its fork was answered with one, and it was not rejected
abbrev pub given_in : ℕ → List RealmStep → Bool
given_in k xs = is_some (grant_in k xs) && not (rejected_in k xs)

-- the end of task k is in the list
abbrev pub finished_in : ℕ → List RealmStep → Bool
finished_in k xs = is_some (end_in k xs)

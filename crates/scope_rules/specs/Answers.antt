-- What a join answers, by what can be read of the scope's tasks. A history, a log and what is kept of
-- scopes speak by these same definitions.
use Rattle.std.specs.Prelude.{ℕ, ◌==◌, Bool, Err, List, None, Ok, Option, Some, false, if◌then◌else◌, map, true}
use Rattle.scope_rules.specs.Words.{Call, Cause, CauseKind, Close, Completion, Deadline, Expiry, Fail, Joiner, MoveOn, Outcome, Policy, State, Success, TaskState, TaskValue, filter_map, option_map_or}
use Rattle.scope_rules.specs.{Ends.EndValue, declared.types.answers.State.TheVariants.Unavailable}
use Rattle.scope_rules.specs.declared.types.joiners.Policy.TheVariants as policy
use Rattle.scope_rules.specs.declared.types.outcomes.Outcome.TheVariants as outcome_is

-- what can be read of a scope's tasks
pub record Readable : Type 0 where
  -- the first completion that failed, and the first that succeeded
  pub failure : Option Completion
  pub success : Option Completion
  -- in fork order: the values of those that succeeded, and all with their states
  pub values : List TaskValue
  pub listing : List TaskState

-- ---- tasks by their states

abbrev pub is_available : State → Bool
is_available Unavailable = false
is_available _ = true

abbrev pub value_in : ℕ → State → Option TaskValue
value_in k (Success value) = Some (record { task = k; value = value })
value_in k _ = None

-- the values of these tasks, of those that succeeded
abbrev pub values_by : (ℕ → State) → List ℕ → List TaskValue
values_by state ks = filter_map (λ k. value_in k (state k)) ks

abbrev pub entry_in : ℕ → State → TaskState
entry_in k x = record { task = k; state = x }

-- these tasks with their states
abbrev pub listing_by : (ℕ → State) → List ℕ → List TaskState
listing_by state ks = map (λ k. entry_in k (state k)) ks

-- ---- the answer

abbrev pub outcome_of_end : ℕ → EndValue → Outcome
outcome_of_end k (Ok value) = outcome_is.Any k value
outcome_of_end k (Err fault) = outcome_is.Failed k fault

-- the outcome that is this completion's, or else the other
abbrev pub outcome_or : Option Completion → Outcome → Outcome
outcome_or o other = option_map_or (λ d. outcome_of_end d.task d.end) o other

-- what the joiner answers
abbrev pub answer_by : Readable → Policy → Outcome
answer_by r policy.All = outcome_or r.failure (outcome_is.All r.values)
answer_by r policy.Any = outcome_or r.success (outcome_or r.failure outcome_is.Empty)
answer_by r policy.AwaitAll = outcome_is.Done
answer_by r policy.AwaitOk = outcome_or r.failure outcome_is.Done
answer_by r (policy.Until rule) = outcome_is.List r.listing

-- what the scope's own deadline answers
abbrev pub answer_at_expiry : Readable → Expiry → Outcome
answer_at_expiry r Fail = outcome_is.Timeout
answer_at_expiry r MoveOn = outcome_is.Partial r.listing

-- what a cancel of scope s's own answers
abbrev pub answer_by_kind : Readable → ℕ → Policy → Expiry → CauseKind → Outcome
answer_by_kind r s p x Call = outcome_is.Cancelled s
answer_by_kind r s p x Deadline = answer_at_expiry r x
answer_by_kind r s p x Joiner = answer_by r p
answer_by_kind r s p x Close = answer_by r p

-- what the join of scope s answers, which has this joiner and whose deadline means this: by the cause, if
-- the scope is cancelled, and else by the joiner
abbrev pub answer_of : Readable → ℕ → Policy → Expiry → Option Cause → Outcome
answer_of r s p x cause = option_map_or (λ c. if c.scope == s then answer_by_kind r s p x c.kind else outcome_is.Cancelled c.scope) cause (answer_by r p)

-- What a join is answered without memory, and what the list of its outcome is.
use Rattle.std.specs.Prelude.{[], ℕ, ℤ, ◌≡◌, Err, List, None, Ok, Option, Result, Some, length, map, option_map, pos}
use Rattle.balkreyn_c.specs.Words.{AnswersValue, BareOutcome, Checked, History, Join, Origin, Outcome, OutcomeTask, Refusal, Retires, TaskState, TaskValue, TimedRealm, after, bare_of, check_of, followed, outcome, outcome_check}
use Rattle.balkreyn_c.specs.{Acting.Answers, Asking.placed, Numbers.no_realm, Numbers.number_of, Numbers.outcome_number, Numbers.state_code, Timed.times_left, Timed.with_realm}
use Rattle.scope_rules.specs.declared.types.outcomes.Outcome.TheVariants as outcome_is

-- the check's refusal, or else the outcome without its list; never want of memory
abbrev pub AnswersBare : Checked → Option Outcome → Result BareOutcome Refusal → Type 0
AnswersBare (Ok done) o (Ok bare) = option_map bare_of o ≡ Some bare
AnswersBare (Ok done) o (Err r) = ⊥
AnswersBare (Err r) o result = result ≡ Err r

-- the join is tried: it answers the outcome that it gives, or its refusal, and adds exactly its event, or nothing
pub record Joined (old : TimedRealm) (actor scope : ℕ) (answer : ℤ) (new : Option TimedRealm) : Type 0 where
  pub reply : Result BareOutcome Refusal
  pub tells : AnswersBare (check_of old.realm.limits old.realm.history (Join actor scope)) (outcome (followed old.realm.history (Join actor scope)) scope) reply
  pub number : answer ≡ number_of outcome_number reply
  pub holds : new ≡ Some (with_realm old (after old.realm (Join actor scope) (check_of old.realm.limits old.realm.history (Join actor scope))))

abbrev pub Joins : Option TimedRealm → ℕ → ℕ → ℤ → Option TimedRealm → Type 0
Joins None actor scope answer new = Answers answer new
Joins (Some old) actor scope answer new = Joined old actor scope answer new

-- the outcome of a scope that was joined
pub record Tells (h : History) (scope : ℕ) (answer : ℤ) : Type 0 where
  pub reply : Result BareOutcome Refusal
  pub tells : AnswersBare (outcome_check h scope) (outcome h scope) reply
  pub number : answer ≡ number_of outcome_number reply

abbrev pub TellsOutcome : Option TimedRealm → ℕ → ℤ → Type 0
TellsOutcome None scope answer = answer ≡ no_realm
TellsOutcome (Some timed) scope answer = Tells timed.realm.history scope answer

-- a task of a list
abbrev pub of_value : TaskValue → OutcomeTask
of_value v = record { task = v.task; state = 1 }

abbrev pub of_state : TaskState → OutcomeTask
of_state s = record { task = s.task; state = state_code s.state }

-- the list of an outcome
abbrev pub list_of : Outcome → List OutcomeTask
list_of (outcome_is.All values) = map of_value values
list_of (outcome_is.List states) = map of_state states
list_of (outcome_is.Partial states) = map of_state states
list_of other = []

abbrev pub list_number : Outcome → ℤ
list_number o = pos (length (list_of o))

abbrev pub list_in : Result Outcome Refusal → List OutcomeTask → List OutcomeTask
list_in (Ok o) old = placed (list_of o) old
list_in (Err r) old = old

-- the list of what the join answered is written if there is room; or want of memory
pub record Lists (h : History) (scope : ℕ) (answer : ℤ) (old new : List OutcomeTask) : Type 0 where
  pub reply : Result Outcome Refusal
  pub tells : AnswersValue (outcome_check h scope) (outcome h scope) reply
  pub number : answer ≡ number_of list_number reply
  pub list : new ≡ list_in reply old

pub record NoList (answer : ℤ) (old new : List OutcomeTask) : Type 0 where
  pub number : answer ≡ no_realm
  pub kept : new ≡ old

abbrev pub ListsOutcome : Option TimedRealm → ℕ → ℤ → List OutcomeTask → List OutcomeTask → Type 0
ListsOutcome None scope answer old new = NoList answer old new
ListsOutcome (Some timed) scope answer old new = Lists timed.realm.history scope answer old new

-- a retirement by the actor
pub record Retired (old : TimedRealm) (actor : ℕ) (answer : ℤ) (new : Option TimedRealm) : Type 0 where
  pub timed : TimedRealm
  pub holds : new ≡ Some timed
  pub reply : Result Origin Refusal
  pub retires : Retires old.realm actor reply timed.realm
  pub times : timed.times.items ≡ times_left timed.realm.history old.times.items
  pub number : answer ≡ number_of (λ base. pos 0) reply

abbrev pub LetsGo : Option TimedRealm → ℕ → ℤ → Option TimedRealm → Type 0
LetsGo None actor answer new = Answers answer new
LetsGo (Some old) actor answer new = Retired old actor answer new

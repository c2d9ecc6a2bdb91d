-- The table of checks: what each event is refused for, in the order in which it is tried, and which
-- events are answered that all is so already. Then what queries are refused for.
use Rattle.std.specs.Prelude.{[], ℕ, ◌==◌, ◌∷◌, Bool, Err, List, Ok, Result, false, if◌then◌else◌, is_some, length, nat_lt, not}
use Rattle.scope_rules.specs.Words.{BeginClose, Bind, Cancel, EndClose, Event, FORK_LOAD, Fault, Finish, Fork, Join, LEVEL_LIMIT, Limits, Move, NotFailed, NotSuccess, OPEN_LOAD, Refusal, Reject, STEP_LOAD, Start, State, Tick}
use Rattle.scope_rules.specs.Words.{Unbind, Value, option_map_or}
use Rattle.scope_rules.specs.{Bindings.bound_as_opened, Bindings.holds_last, Bindings.stack, Cancels.is_cancelled, Checks.Checked, Checks.Tried, Checks.checks, Checks.in_closing, Checks.is_innermost, Checks.known_actor}
use Rattle.scope_rules.specs.{Checks.known_scope, Checks.known_task, Checks.load_fits, Checks.not_closing, Checks.not_joined, Checks.owned, Checks.owns, Checks.refusal_of, Checks.refuse_if, History.History, History.forking}
use Rattle.scope_rules.specs.{History.moment, Load.over_scopes, Load.over_tasks, Scopes.closed, Scopes.closing, Scopes.innermost, Scopes.joined, Scopes.next_level, Tasks.is_running, Tasks.is_waiting, Tasks.ready, Tasks.settled}
use Rattle.scope_rules.specs.{Tasks.stage, declared.types.checks.Failed.Failed, declared.types.events.Event.TheVariants.Open, declared.types.refusals.Refusal.TheVariants.Unavailable}
use Rattle.scope_rules.specs.declared.types.checks.Failed.TheVariants as failed
use Rattle.scope_rules.specs.declared.types.answers.State.TheVariants as state_is

-- the table: one row an event
abbrev pub rows : {F : Type 0} → (Failed → F) → Limits → History → Event → List (Tried F)
rows made L h (Open actor policy options) = known_actor made h actor ∷ refuse_if (in_closing h actor) (made (failed.ClosingAround actor)) ∷ refuse_if (nat_lt LEVEL_LIMIT (next_level h actor)) (made (failed.TooDeep actor)) ∷ refuse_if (over_scopes L h) (made failed.Scopes) ∷ load_fits made L h OPEN_LOAD ∷ []
rows made L h (Fork actor scope label) = known_actor made h actor ∷ known_scope made h scope ∷ owned made h actor scope ∷ not_closing made h scope ∷ not_joined made h scope ∷ refuse_if (not (bound_as_opened h actor scope)) (made (failed.BoundOtherwise actor scope)) ∷ refuse_if (over_tasks L h) (made failed.Tasks) ∷ load_fits made L h FORK_LOAD ∷ []
rows made L h (Reject task) = known_task made h task ∷ refuse_if (not (is_waiting (stage h task))) (made (failed.NotWaiting task)) ∷ []
rows made L h (Start task) = known_task made h task ∷ refuse_if (not (is_waiting (stage h task))) (made (failed.NotWaiting task)) ∷ []
rows made L h (Finish task end) = known_task made h task ∷ refuse_if (not (is_running (stage h task))) (made (failed.NotRunning task)) ∷ refuse_if (is_some (innermost h task)) (made (failed.Unclosed task)) ∷ []
rows made L h (Cancel scope) = known_scope made h scope ∷ not_closing made h scope ∷ (if is_cancelled h scope then Ok tt else load_fits made L h STEP_LOAD) ∷ []
rows made L h (Move scope deadline) = known_scope made h scope ∷ not_closing made h scope ∷ not_joined made h scope ∷ load_fits made L h STEP_LOAD ∷ []
rows made L h (Tick now) = refuse_if (nat_lt now (moment h)) (made (failed.ClockBack now)) ∷ load_fits made L h STEP_LOAD ∷ []
rows made L h (Bind actor pair) = known_actor made h actor ∷ load_fits made L h STEP_LOAD ∷ []
rows made L h (Unbind actor) = known_actor made h actor ∷ refuse_if (length (stack h actor) == 0) (made (failed.NoBinding actor)) ∷ refuse_if (holds_last h actor) (made (failed.HeldBinding actor)) ∷ load_fits made L h STEP_LOAD ∷ []
rows made L h (Join actor scope) = known_actor made h actor ∷ known_scope made h scope ∷ owned made h actor scope ∷ not_closing made h scope ∷ not_joined made h scope ∷ refuse_if (not (ready h scope)) (made (failed.Pending scope)) ∷ []
rows made L h (BeginClose actor scope) = known_actor made h actor ∷ known_scope made h scope ∷ owned made h actor scope ∷ []
rows made L h (EndClose actor scope) = known_actor made h actor ∷ known_scope made h scope ∷ owned made h actor scope ∷ refuse_if (not (closing h scope)) (made (failed.NotClosing scope)) ∷ refuse_if (closed h scope) (made (failed.Closed scope)) ∷ refuse_if (not (is_innermost h actor scope)) (made (failed.NotInnermost actor scope)) ∷ refuse_if (not (settled h scope)) (made (failed.Pending scope)) ∷ []

-- what is made of the first check of the event's row that fails after h
unfoldable pub row_check : {F : Type 0} → (Failed → F) → Limits → History → Event → Tried F
row_check made L h e = checks (rows made L h e)

-- what the event is refused for
abbrev pub check_of : Limits → History → Event → Checked
check_of L h e = row_check refusal_of L h e

-- all is so already: the event is answered that, and not recorded
abbrev pub is_already : History → Event → Bool
is_already h (Cancel scope) = is_cancelled h scope
is_already h (BeginClose actor scope) = closing h scope
is_already h _ = false

-- a retirement, which is no event, has a row of its own
abbrev pub retire_row : {F : Type 0} → (Failed → F) → History → ℕ → List (Tried F)
retire_row made h a = known_actor made h a ∷ refuse_if (not (a == 0)) (made (failed.NotMain a)) ∷ refuse_if (is_some (innermost h 0)) (made (failed.Unclosed 0)) ∷ []

-- what a retirement is refused for
unfoldable pub retire_check : History → ℕ → Checked
retire_check h a = checks (retire_row refusal_of h a)

-- the actor opened the scope of task k
abbrev pub owns_task : History → ℕ → ℕ → Bool
owns_task h a k = option_map_or (λ f. owns h a f.scope) (forking h k) false

-- the scope of task k is joined
abbrev pub task_joined : History → ℕ → Bool
task_joined h k = option_map_or (λ f. joined h f.scope) (forking h k) false

-- the state of task k may be read by the actor
abbrev pub reading_row : {F : Type 0} → (Failed → F) → History → ℕ → ℕ → List (Tried F)
reading_row made h a k = known_actor made h a ∷ known_task made h k ∷ refuse_if (not (owns_task h a k)) (made (failed.NotTaskOwner a k)) ∷ refuse_if (not (task_joined h k)) (made (failed.NotJoined k)) ∷ []

unfoldable pub reading_check : History → ℕ → ℕ → Checked
reading_check h a k = checks (reading_row refusal_of h a k)

-- the deadline in effect may be asked: the scope is there, and not closed
abbrev pub until_row : {F : Type 0} → (Failed → F) → History → ℕ → List (Tried F)
until_row made h s = known_scope made h s ∷ refuse_if (closed h s) (made (failed.Closed s)) ∷ []

unfoldable pub until_check : History → ℕ → Checked
until_check h s = checks (until_row refusal_of h s)

-- the value that the state shows
abbrev pub value_shown : State → Result Value Refusal
value_shown state_is.Unavailable = Err Unavailable
value_shown (state_is.Success value) = Ok value
value_shown (state_is.Failed fault) = Err NotSuccess

-- the fault that the state shows
abbrev pub fault_shown : State → Result Fault Refusal
fault_shown state_is.Unavailable = Err Unavailable
fault_shown (state_is.Success value) = Err NotFailed
fault_shown (state_is.Failed fault) = Ok fault

-- what is made of the check that failed, or else the answer
abbrev pub checked_then : {A F : Type 0} → Tried F → Result A F → Result A F
checked_then (Ok done) answer = answer
checked_then (Err r) answer = Err r

-- the same, or else this value
abbrev pub answering : {A F : Type 0} → Tried F → A → Result A F
answering check x = checked_then check (Ok x)

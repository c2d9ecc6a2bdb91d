-- Which refusal a reason is of, and that the reasons are those of the refusals.
use Rattle.std.specs.Prelude.{◌≡◌}
use Rattle.refusal_reasons.specs.Words.{ℕ, ActorObstacle, Checked, Err, Event, History, Limits, Ok, Query, Reason, Refusal, Result, RoomObstacle, ScopeObstacle, TaskObstacle, binding_reply}
use Rattle.refusal_reasons.specs.Words.{check_of, fault_reply, result_reply, retire_check, scope_check, task_check, until_check}
use Rattle.refusal_reasons.specs.Reasons.{Explained, event_reason, query_reason, retire_reason}

abbrev pub scope_refusal : ScopeObstacle → Refusal
scope_refusal (ScopeObstacle.Unknown opened) = Refusal.NoScope
scope_refusal (ScopeObstacle.LetGo last) = Refusal.Retired
scope_refusal (ScopeObstacle.Owned owner actor) = Refusal.NotOwner
scope_refusal (ScopeObstacle.Closing event) = Refusal.Closed
scope_refusal (ScopeObstacle.Closed event) = Refusal.Closed
scope_refusal (ScopeObstacle.ClosingAround actor event) = Refusal.Closed
scope_refusal (ScopeObstacle.Joined event) = Refusal.AlreadyJoined
scope_refusal ScopeObstacle.NotClosing = Refusal.WrongStage
scope_refusal (ScopeObstacle.Awaits task stage) = Refusal.NotReady
scope_refusal (ScopeObstacle.BoundOtherwise actor pairs) = Refusal.Structure
scope_refusal (ScopeObstacle.Unclosed actor) = Refusal.Structure
scope_refusal (ScopeObstacle.NotInnermost actor innermost) = Refusal.Structure

abbrev pub task_refusal : TaskObstacle → Refusal
task_refusal (TaskObstacle.Unknown forked) = Refusal.NoTask
task_refusal (TaskObstacle.LetGo last) = Refusal.Retired
task_refusal (TaskObstacle.AtStage stage wanted) = Refusal.WrongStage
task_refusal (TaskObstacle.Owned scope owner actor) = Refusal.NotOwner
task_refusal (TaskObstacle.NotJoined scope) = Refusal.NotJoined
task_refusal (TaskObstacle.Unreadable scope stage) = Refusal.Unavailable
task_refusal (TaskObstacle.Failed fault) = Refusal.NotSuccess
task_refusal (TaskObstacle.Succeeded value) = Refusal.NotFailed

abbrev pub actor_refusal : ActorObstacle → Refusal
actor_refusal ActorObstacle.NotMain = Refusal.NotOwner
actor_refusal ActorObstacle.NoPair = Refusal.NotBound
actor_refusal (ActorObstacle.HeldPair pairs) = Refusal.Structure
actor_refusal (ActorObstacle.Unbound key) = Refusal.NotBound

abbrev pub room_refusal : RoomObstacle → Refusal
room_refusal (RoomObstacle.Levels level) = Refusal.TooDeep
room_refusal _ = Refusal.TooMany

-- the refusal that the reason is of
abbrev pub reason_refusal : Reason → Refusal
reason_refusal (Reason.Scope scope obstacle) = scope_refusal obstacle
reason_refusal (Reason.Task task obstacle) = task_refusal obstacle
reason_refusal (Reason.Actor actor obstacle) = actor_refusal obstacle
reason_refusal (Reason.Room obstacle) = room_refusal obstacle
reason_refusal (Reason.ClockBack wanted present) = Refusal.ClockBack

-- what a check is that is refused for such a reason, or passes
abbrev pub refusing : Explained → Checked
refusing (Ok done) = Ok done
refusing (Err r) = Err (reason_refusal r)

-- what is refused, whatever else is answered
abbrev pub refused_alone : {A : Type 0} → Result A Refusal → Checked
refused_alone (Ok x) = Ok tt
refused_alone (Err r) = Err r

-- what a query is refused for
unfoldable pub query_check : History → Query → Checked
query_check h (Query.State task) = task_check h task
query_check h (Query.Stage task) = task_check h task
query_check h (Query.Result actor task) = refused_alone (result_reply h actor task)
query_check h (Query.Fault actor task) = refused_alone (fault_reply h actor task)
query_check h (Query.Cause scope) = scope_check h scope
query_check h (Query.Until scope) = until_check h scope
query_check h (Query.Counts scope) = scope_check h scope
query_check h (Query.Get actor key) = refused_alone (binding_reply h actor key)

-- an event has a reason just if its row refuses it, and the reason is of that refusal
abbrev pub EventsFit : Type 0
EventsFit = (L : Limits) (h : History) (e : Event) → check_of L h e ≡ refusing (event_reason L h e)

-- and so has a retirement
abbrev pub RetirementsFit : Type 0
RetirementsFit = (L : Limits) (h : History) (a : ℕ) → retire_check h a ≡ refusing (retire_reason L h a)

-- and so has a query
abbrev pub QueriesFit : Type 0
QueriesFit = (L : Limits) (h : History) (q : Query) → query_check h q ≡ refusing (query_reason L h q)

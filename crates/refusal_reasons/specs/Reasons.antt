-- Why a command is refused: what is said of the check of its row that failed.
use Rattle.std.specs.Prelude.{if◌then◌else◌, ◌+◌, ◌≡◌}
use Rattle.refusal_reasons.specs.Words.{ℕ, ActorObstacle, Err, Event, Failed, History, Limits, Name, Never, Ok, Option, Query, Reason, RoomObstacle, Running, ScopeObstacle, State}
use Rattle.refusal_reasons.specs.Words.{TaskObstacle, Tried, Waiting, actor_check, bindings, bound_to, checks, closed, forked_count, forking, innermost, is_some, known_actor}
use Rattle.refusal_reasons.specs.Words.{known_scope, known_task, length, load, moment, nat_le, next_level, not, opened_count, opening, option_map_or, reading_row, refuse_if, remade, retire_row}
use Rattle.refusal_reasons.specs.Words.{row_check, scope_check, scopes, stack, stage, state, tasks, then_check, until_row}
use Rattle.refusal_reasons.specs.Places.{closed_place, closing_place, joined_place, pending_task}

-- nothing is in the way, or the reason is
abbrev pub Explained : Type 0
Explained = Tried Reason

-- who opened scope s; it is asked of an opened one
abbrev pub owner_of : History → ℕ → ℕ
owner_of h s = option_map_or (λ o. o.actor) (opening h s) 0

-- the scope in which task k was forked; it is asked of a forked one
abbrev pub scope_of : History → ℕ → ℕ
scope_of h k = option_map_or (λ f. f.scope) (forking h k) 0

-- the event at the place, counted from 1; it is asked of a place that was found
abbrev pub event_at : Option ℕ → ℕ
event_at place = option_map_or (λ i. i + 1) place 0

-- since when scope s is closed
abbrev pub closed_reason : History → ℕ → Reason
closed_reason h s = Reason.Scope s (ScopeObstacle.Closed (event_at (closed_place h.events s)))

-- since when scope s is closing or closed
abbrev pub closing_reason : History → ℕ → Reason
closing_reason h s = if closed h s then closed_reason h s else Reason.Scope s (ScopeObstacle.Closing (event_at (closing_place h s)))

-- since when the actor's innermost scope is closing; it is asked of an actor that has one
abbrev pub around_reason : History → ℕ → Reason
around_reason h a = option_map_or (λ s. Reason.Scope s (ScopeObstacle.ClosingAround a (event_at (closing_place h s)))) (innermost h a) (Reason.Scope 0 (ScopeObstacle.ClosingAround a 0))

-- which task of scope s waits or runs; it is asked of a scope of which one does
abbrev pub pending_reason : History → ℕ → Reason
pending_reason h s = option_map_or (λ k. Reason.Scope s (ScopeObstacle.Awaits k (stage h k))) (pending_task h s) (Reason.Scope s (ScopeObstacle.Awaits 0 Never))

-- which scope of the actor is not closed; it is asked of an actor that has one
abbrev pub unclosed_reason : History → ℕ → Reason
unclosed_reason h a = option_map_or (λ s. Reason.Scope s (ScopeObstacle.Unclosed a)) (innermost h a) (Reason.Scope 0 (ScopeObstacle.Unclosed a))

-- how many bindings are the actor's own
abbrev pub pairs_of : History → ℕ → ℕ
pairs_of h a = length (stack h a)

-- what is said of the check that failed after h
abbrev pub reason_of : Limits → History → Failed → Reason
reason_of L h (Failed.ScopeRetired s) = Reason.Scope s (ScopeObstacle.LetGo h.base.scopes)
reason_of L h (Failed.ScopeUnknown s) = Reason.Scope s (ScopeObstacle.Unknown (scopes h))
reason_of L h (Failed.TaskRetired k) = Reason.Task k (TaskObstacle.LetGo h.base.tasks)
reason_of L h (Failed.TaskUnknown k) = Reason.Task k (TaskObstacle.Unknown (tasks h))
reason_of L h (Failed.NotRunning k) = Reason.Task k (TaskObstacle.AtStage (stage h k) Running)
reason_of L h (Failed.NotWaiting k) = Reason.Task k (TaskObstacle.AtStage (stage h k) Waiting)
reason_of L h (Failed.NotOwner a s) = Reason.Scope s (ScopeObstacle.Owned (owner_of h s) a)
reason_of L h (Failed.NotTaskOwner a k) = Reason.Task k (TaskObstacle.Owned (scope_of h k) (owner_of h (scope_of h k)) a)
reason_of L h (Failed.NotMain a) = Reason.Actor a ActorObstacle.NotMain
reason_of L h (Failed.Closing s) = closing_reason h s
reason_of L h (Failed.Closed s) = closed_reason h s
reason_of L h (Failed.NotClosing s) = Reason.Scope s ScopeObstacle.NotClosing
reason_of L h (Failed.ClosingAround a) = around_reason h a
reason_of L h (Failed.Joined s) = Reason.Scope s (ScopeObstacle.Joined (event_at (joined_place h.events s)))
reason_of L h (Failed.NotJoined k) = Reason.Task k (TaskObstacle.NotJoined (scope_of h k))
reason_of L h (Failed.Pending s) = pending_reason h s
reason_of L h (Failed.Unclosed a) = unclosed_reason h a
reason_of L h (Failed.NotInnermost a s) = Reason.Scope s (ScopeObstacle.NotInnermost a (innermost h a))
reason_of L h (Failed.BoundOtherwise a s) = Reason.Scope s (ScopeObstacle.BoundOtherwise a (pairs_of h a))
reason_of L h (Failed.NoBinding a) = Reason.Actor a ActorObstacle.NoPair
reason_of L h (Failed.HeldBinding a) = Reason.Actor a (ActorObstacle.HeldPair (pairs_of h a))
reason_of L h (Failed.ClockBack now) = Reason.ClockBack now (moment h)
reason_of L h (Failed.TooDeep a) = Reason.Room (RoomObstacle.Levels (next_level h a))
reason_of L h Failed.Scopes = Reason.Room (if nat_le L.scopes (opened_count h) then RoomObstacle.Scopes (opened_count h) L.scopes else RoomObstacle.ScopeNumbers)
reason_of L h Failed.Tasks = Reason.Room (if nat_le L.tasks (forked_count h) then RoomObstacle.Tasks (forked_count h) L.tasks else RoomObstacle.TaskNumbers)
reason_of L h (Failed.Load units) = Reason.Room (RoomObstacle.Load (load h) L.load units)

-- which checks passed before this one failed, as far as its reason goes by them
abbrev pub Presupposed : History → Failed → Type 0
Presupposed h (Failed.TooDeep a) = actor_check h a ≡ Ok tt
Presupposed h (Failed.BoundOtherwise a s) = actor_check h a ≡ Ok tt
Presupposed h (Failed.HeldBinding a) = actor_check h a ≡ Ok tt
Presupposed h (Failed.Pending s) = scope_check h s ≡ Ok tt
Presupposed h _ = Unit {0}

-- the reason, if a check failed
abbrev pub explained : Limits → History → Tried Failed → Explained
explained L h checked = remade (reason_of L h) checked

-- why the event is refused after h, if it is
unfoldable pub event_reason : Limits → History → Event → Explained
event_reason L h e = explained L h (row_check (λ f. f) L h e)

-- why a retirement is refused, if it is
unfoldable pub retire_reason : Limits → History → ℕ → Explained
retire_reason L h a = explained L h (checks (retire_row (λ f. f) h a))

-- ---- of queries

-- the state of task k shows a value
abbrev pub shows_value : History → ℕ → State → Explained
shows_value h k State.Unavailable = Err (Reason.Task k (TaskObstacle.Unreadable (scope_of h k) (stage h k)))
shows_value h k (State.Success value) = Ok tt
shows_value h k (State.Failed fault) = Err (Reason.Task k (TaskObstacle.Failed fault))

-- the state of task k shows a failure
abbrev pub shows_fault : History → ℕ → State → Explained
shows_fault h k State.Unavailable = Err (Reason.Task k (TaskObstacle.Unreadable (scope_of h k) (stage h k)))
shows_fault h k (State.Success value) = Err (Reason.Task k (TaskObstacle.Succeeded value))
shows_fault h k (State.Failed fault) = Ok tt

-- the actor sees something bound to the key
abbrev pub sees : History → ℕ → Name → Explained
sees h a key = refuse_if (not (is_some (bound_to key (bindings h a)))) (Reason.Actor a (ActorObstacle.Unbound key))

-- why the state of task k may not be read by the actor, if it may not
abbrev pub reading_reason : Limits → History → ℕ → ℕ → Explained
reading_reason L h a k = explained L h (checks (reading_row (λ f. f) h a k))

-- why a query is refused, if it is
unfoldable pub query_reason : Limits → History → Query → Explained
query_reason L h (Query.State task) = explained L h (known_task (λ f. f) h task)
query_reason L h (Query.Stage task) = explained L h (known_task (λ f. f) h task)
query_reason L h (Query.Result actor task) = then_check (reading_reason L h actor task) (shows_value h task (state h task))
query_reason L h (Query.Fault actor task) = then_check (reading_reason L h actor task) (shows_fault h task (state h task))
query_reason L h (Query.Cause scope) = explained L h (known_scope (λ f. f) h scope)
query_reason L h (Query.Until scope) = explained L h (checks (until_row (λ f. f) h scope))
query_reason L h (Query.Counts scope) = explained L h (known_scope (λ f. f) h scope)
query_reason L h (Query.Get actor key) = then_check (explained L h (known_actor (λ f. f) h actor)) (sees h actor key)

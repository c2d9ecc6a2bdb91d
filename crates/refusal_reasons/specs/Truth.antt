-- That a reason tells the truth of a history, said by its events, openings and stages and not by the checks.
use Rattle.std.specs.Prelude.{◌+◌, ◌<◌, ◌≡◌, ◌≤◌}
use Rattle.refusal_reasons.specs.Words.{ℕ, ActorObstacle, BeginClose, Bind, Bool, EndClose, Err, Event, Finish, Fork, Forking, GREATEST_NUMBER, History, IfSome, Join, LEVEL_LIMIT}
use Rattle.refusal_reasons.specs.Words.{Limits, None, Open, Opening, Query, Reason, Reject, RoomObstacle, ScopeObstacle, Some, Start, State, TaskObstacle, Unbind, before, begins_closing, bindings}
use Rattle.refusal_reasons.specs.Words.{bound_as_opened, bound_to, closed, closing, ends, false, forked_count, forking, holds_last, innermost, joined, joins, length, load, moment, next_level}
use Rattle.refusal_reasons.specs.Words.{opened_count, opening, scopes, slice_get, stack, stage, state, tasks, tasks_of, true, weight}
use Rattle.refusal_reasons.specs.{Places.is_pending, Reasons.event_reason, Reasons.query_reason, Reasons.retire_reason}

-- who asks for the event
abbrev pub asker : Event → ℕ
asker (Open actor policy options) = actor
asker (Fork actor scope label) = actor
asker (Reject task) = task
asker (Start task) = task
asker (Finish task end) = task
asker (Bind actor pair) = actor
asker (Unbind actor) = actor
asker (Join actor scope) = actor
asker (BeginClose actor scope) = actor
asker (EndClose actor scope) = actor
asker _ = 0

-- who asks the query
abbrev pub questioner : Query → ℕ
questioner (Query.Result actor task) = actor
questioner (Query.Fault actor task) = actor
questioner (Query.Get actor key) = actor
questioner _ = 0

-- the event with this number, counted from 1, is there, and the test holds of its place and of it
abbrev pub IsEvent : History → (ℕ → Event → Bool) → ℕ → Type 0
IsEvent h test n = (i : ℕ) × (e : Event) × (n ≡ i + 1) × (slice_get h.events i ≡ Some e) × (test i e ≡ true)

-- the event with this number began a close that covers scope s
abbrev pub BeginsClose : History → ℕ → ℕ → Type 0
BeginsClose h s n = IsEvent h (λ i. begins_closing (before h i) s) n

-- task k was forked in scope s and waits or runs, and no task forked there before it does
abbrev pub IsFirstPending : History → ℕ → ℕ → Type 0
IsFirstPending h s k = (i : ℕ) × (slice_get (tasks_of h s) i ≡ Some k) × (is_pending h k ≡ true) × ((j l : ℕ) → j < i → slice_get (tasks_of h s) j ≡ Some l → is_pending h l ≡ false)

-- task k was forked in scope s
abbrev pub IsForkedIn : History → ℕ → ℕ → Type 0
IsForkedIn h k s = (f : Forking) × (forking h k ≡ Some f) × (f.scope ≡ s)

-- what is said of scope s to actor a is so
abbrev pub ScopeIsSo : History → ℕ → ℕ → ScopeObstacle → Type 0
ScopeIsSo h a s (ScopeObstacle.Unknown opened) = (opening h s ≡ None) × (opened ≡ scopes h)
ScopeIsSo h a s (ScopeObstacle.LetGo last) = (0 < s) × (s ≤ last) × (last ≡ h.base.scopes)
ScopeIsSo h a s (ScopeObstacle.Owned owner actor) = (actor ≡ a) × ((owner ≡ a) → ⊥) × (o : Opening) × (opening h s ≡ Some o) × (o.actor ≡ owner)
ScopeIsSo h a s (ScopeObstacle.Closing event) = BeginsClose h s event × (closed h s ≡ false)
ScopeIsSo h a s (ScopeObstacle.Closed event) = IsEvent h (λ i. ends s) event
ScopeIsSo h a s (ScopeObstacle.ClosingAround actor event) = (actor ≡ a) × (innermost h a ≡ Some s) × BeginsClose h s event
ScopeIsSo h a s (ScopeObstacle.Joined event) = IsEvent h (λ i. joins s) event
ScopeIsSo h a s ScopeObstacle.NotClosing = closing h s ≡ false
ScopeIsSo h a s (ScopeObstacle.Awaits k at) = IsFirstPending h s k × (at ≡ stage h k)
ScopeIsSo h a s (ScopeObstacle.BoundOtherwise actor pairs) = (actor ≡ a) × (pairs ≡ length (stack h a)) × (bound_as_opened h a s ≡ false)
ScopeIsSo h a s (ScopeObstacle.Unclosed actor) = (actor ≡ a) × (innermost h a ≡ Some s)
ScopeIsSo h a s (ScopeObstacle.NotInnermost actor inside) = (actor ≡ a) × (inside ≡ innermost h a) × ((inside ≡ Some s) → ⊥)

-- what is said of task k to actor a is so
abbrev pub TaskIsSo : History → ℕ → ℕ → TaskObstacle → Type 0
TaskIsSo h a k (TaskObstacle.Unknown forked) = (forking h k ≡ None) × (forked ≡ tasks h)
TaskIsSo h a k (TaskObstacle.LetGo last) = (0 < k) × (k ≤ last) × (last ≡ h.base.tasks)
TaskIsSo h a k (TaskObstacle.AtStage at wanted) = (at ≡ stage h k) × ((at ≡ wanted) → ⊥)
TaskIsSo h a k (TaskObstacle.Owned s owner actor) = (actor ≡ a) × IsForkedIn h k s × IfSome (opening h s) (λ o. (o.actor ≡ owner) × ((owner ≡ a) → ⊥))
TaskIsSo h a k (TaskObstacle.NotJoined s) = IsForkedIn h k s × (joined h s ≡ false)
TaskIsSo h a k (TaskObstacle.Unreadable s at) = IsForkedIn h k s × (at ≡ stage h k) × (state h k ≡ State.Unavailable)
TaskIsSo h a k (TaskObstacle.Failed fault) = state h k ≡ State.Failed fault
TaskIsSo h a k (TaskObstacle.Succeeded value) = state h k ≡ State.Success value

-- what is said of actor b to actor a is so: they are one
abbrev pub ActorIsSo : History → ℕ → ℕ → ActorObstacle → Type 0
ActorIsSo h a b ActorObstacle.NotMain = (b ≡ a) × ((a ≡ 0) → ⊥)
ActorIsSo h a b ActorObstacle.NoPair = (b ≡ a) × (length (stack h a) ≡ 0)
ActorIsSo h a b (ActorObstacle.HeldPair pairs) = (b ≡ a) × (pairs ≡ length (stack h a)) × (holds_last h a ≡ true)
ActorIsSo h a b (ActorObstacle.Unbound key) = (b ≡ a) × (bound_to key (bindings h a) ≡ None)

-- there is no capacity for what actor a asks for, which costs so many units
abbrev pub RoomIsSo : Limits → History → ℕ → ℕ → RoomObstacle → Type 0
RoomIsSo L h a cost (RoomObstacle.Scopes opened limit) = (opened ≡ opened_count h) × (limit ≡ L.scopes) × (limit ≤ opened)
RoomIsSo L h a cost RoomObstacle.ScopeNumbers = GREATEST_NUMBER ≤ scopes h
RoomIsSo L h a cost (RoomObstacle.Tasks forked limit) = (forked ≡ forked_count h) × (limit ≡ L.tasks) × (limit ≤ forked)
RoomIsSo L h a cost RoomObstacle.TaskNumbers = GREATEST_NUMBER ≤ tasks h
RoomIsSo L h a cost (RoomObstacle.Load used limit wanted) = (used ≡ load h) × (limit ≡ L.load) × (wanted ≡ cost) × (limit < used + wanted)
RoomIsSo L h a cost (RoomObstacle.Levels level) = (level ≡ next_level h a) × (LEVEL_LIMIT < level)

-- what the reason says to actor a, who asks for something of this cost, is so
abbrev pub IsSo : Limits → History → ℕ → ℕ → Reason → Type 0
IsSo L h a cost (Reason.Scope s obstacle) = ScopeIsSo h a s obstacle
IsSo L h a cost (Reason.Task k obstacle) = TaskIsSo h a k obstacle
IsSo L h a cost (Reason.Actor b obstacle) = ActorIsSo h a b obstacle
IsSo L h a cost (Reason.Room obstacle) = RoomIsSo L h a cost obstacle
IsSo L h a cost (Reason.ClockBack wanted present) = (present ≡ moment h) × (wanted < present)

-- whatever is said of a refused event is so
abbrev pub EventsAreTrue : Type 0
EventsAreTrue = (L : Limits) (h : History) (e : Event) (r : Reason) → event_reason L h e ≡ Err r → IsSo L h (asker e) (weight e) r

-- and of a refused retirement
abbrev pub RetirementsAreTrue : Type 0
RetirementsAreTrue = (L : Limits) (h : History) (a : ℕ) (r : Reason) → retire_reason L h a ≡ Err r → IsSo L h a 0 r

-- and of a refused query
abbrev pub QueriesAreTrue : Type 0
QueriesAreTrue = (L : Limits) (h : History) (q : Query) (r : Reason) → query_reason L h q ≡ Err r → IsSo L h (questioner q) 0 r

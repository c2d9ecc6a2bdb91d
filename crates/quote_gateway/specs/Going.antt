-- How a token's list of steps goes on while a request is served in a scope of its actor.
use Rattle.std.specs.Prelude.{◌++◌, ◌==◌, ◌∷◌, ◌≡◌, ◌≢◌, ◌⊎◌}
use Rattle.quote_gateway.specs.Words.{ℕ, Accepted, Bool, EndClose, Ends, Err, Event, Fork, ForkReply, GatewayFault, Happened, History, IsLegal, IsOpenOf, LabelValue}
use Rattle.quote_gateway.specs.Words.{Limits, List, Memory, Never, Open, Options, Outcome, OwnerValue, Policy, RealmStep, Refusal, Some, Thread, false, history_of, history_seen, innermost, is_event}
use Rattle.quote_gateway.specs.Words.{is_task_of, label, list_any, map, next_scope, outcome, rejected, reply_there, step_check, tasks_of, true}

-- ---- lists that go on

-- what was seen is the beginning of what is seen
pub record IsBeginning (seen whole : List RealmStep) : Type 0 where
  pub later : List RealmStep
  pub is : whole ≡ seen ++ later

-- the event opens or closes a scope of the actor
abbrev pub nests : ℕ → Event → Bool
nests a (Open actor policy options) = actor == a
nests a (EndClose actor scope) = actor == a
nests a _ = false

-- it opens or closes one, or the actor forks by it
abbrev pub shapes : ℕ → Event → Bool
shapes a (Open actor policy options) = actor == a
shapes a (Fork actor scope label) = actor == a
shapes a (EndClose actor scope) = actor == a
shapes a _ = false

-- the list goes on, is legal, and none of the later steps is such an event
pub record GoesOn (L : Limits) (test : Event → Bool) (old new : List RealmStep) : Type 0 where
  pub later : List RealmStep
  pub is : new ≡ old ++ later
  pub none : list_any (is_event test) later ≡ false
  pub legal : IsLegal L new

-- since then the token's actor has neither opened nor closed a scope
abbrev pub KeepsScopes : OwnerValue → OwnerValue → Type 0
KeepsScopes old new = GoesOn old.limits (nests old.actor) old.seen new.seen

-- and has forked nothing
abbrev pub KeepsTasks : OwnerValue → OwnerValue → Type 0
KeepsTasks old new = GoesOn old.limits (shapes old.actor) old.seen new.seen

-- ---- the scope of a request

-- the token's actor opened scope s, and has not closed it
pub record IsOpenHere (token : OwnerValue) (s : ℕ) : Type 0 where
  pub legal : IsLegal token.limits token.seen
  pub of : IsOpenOf (history_seen token) token.actor s

-- and its tasks are these, in fork order, with these labels
pub record HasForked (token : OwnerValue) (s : ℕ) (labels : List LabelValue) (tasks : List ℕ) : Type 0 where
  pub here : IsOpenHere token s
  pub are : tasks_of (history_seen token) s ≡ tasks
  pub labelled : map (label (history_seen token)) tasks ≡ map Some labels

-- it is joined
pub record HasJoined (token : OwnerValue) (s : ℕ) (tasks : List ℕ) : Type 0 where
  pub here : IsOpenHere token s
  pub are : tasks_of (history_seen token) s ≡ tasks
  pub came : Outcome
  pub joined : outcome (history_seen token) s ≡ Some came

-- task k is one of its tasks
pub record IsTaskHere (token : OwnerValue) (s k : ℕ) : Type 0 where
  pub here : IsOpenHere token s
  pub of : is_task_of (history_seen token) s k ≡ true

-- ---- what the calls did

-- the scope was opened so
abbrev pub Opens : OwnerValue → OwnerValue → Policy → Options → ℕ → Type 0
Opens old new policy options s = Accepted old new (Happened (Open old.actor policy options)) next_scope s

abbrev pub task_in : ForkReply → ℕ
task_in (Thread task) = task
task_in (Never task) = task

-- the task was forked in scope s with the label
pub record ForkedAs (old new : OwnerValue) (s : ℕ) (label : LabelValue) (task : ℕ) : Type 0 where
  pub reply : ForkReply
  pub accepted : Accepted old new (Happened (Fork old.actor s label)) (reply_there s) reply
  pub number : task ≡ task_in reply

-- others took steps, or the token's actor neither opened nor closed a scope, nor forked; and then come exactly
-- the ends of scope s and of what was open inside it
pub record EndsScope (old new : OwnerValue) (s : ℕ) : Type 0 where
  pub before : List RealmStep
  pub goes : GoesOn old.limits (shapes old.actor) old.seen before
  pub nested : List ℕ
  pub ends : Ends old.limits old.actor s nested before new.seen

-- ---- what was refused

-- the rules refuse the step on what the token had seen at some time between, for another cause than memory
pub record IsRefusedAt (old new : OwnerValue) (x : RealmStep) : Type 0 where
  pub seen : List RealmStep
  pub since : IsBeginning old.seen seen
  pub until : IsBeginning seen new.seen
  pub refusal : Refusal
  pub other : refusal ≢ Memory
  pub by : step_check new.limits new.actor x (history_of seen) ≡ Err refusal

-- memory was refused, or this is why
abbrev pub IsTurnedDown : Type 0 → GatewayFault → Type 0
IsTurnedDown Why GatewayFault.Memory = Unit {0}
IsTurnedDown Why GatewayFault.Rejected = Why
IsTurnedDown Why _ = ⊥

-- the label is one of these
pub record IsOneOf (label : LabelValue) (labels : List LabelValue) : Type 0 where
  pub before : List LabelValue
  pub after : List LabelValue
  pub is : labels ≡ before ++ label ∷ after

-- a task of scope s with one of these labels is rejected
pub record HasRejected (h : History) (s : ℕ) (labels : List LabelValue) : Type 0 where
  pub task : ℕ
  pub of : is_task_of h s task ≡ true
  pub its : LabelValue
  pub labelled : label h task ≡ Some its
  pub one : IsOneOf its labels
  pub never : rejected h task ≡ true

-- the actor's innermost scope is the one that it was
abbrev pub KeepsInnermost : OwnerValue → OwnerValue → Type 0
KeepsInnermost old new = innermost (history_seen new) new.actor ≡ innermost (history_seen old) old.actor

-- the open was refused, and nothing is opened
pub record OpensNone (old new : OwnerValue) (policy : Policy) (options : Options) (why : GatewayFault) : Type 0 where
  pub since : IsBeginning old.seen new.seen
  pub left : KeepsInnermost old new
  pub cause : IsTurnedDown (IsRefusedAt old new (Happened (Open old.actor policy options))) why

-- a fork was refused of a job with one of these labels, or its task was rejected
abbrev pub ForkTurnedDown : OwnerValue → OwnerValue → ℕ → List LabelValue → Type 0
ForkTurnedDown old new s labels =
    ((label : LabelValue) × IsOneOf label labels × IsRefusedAt old new (Happened (Fork old.actor s label)))
    ⊎ HasRejected (history_seen new) s labels

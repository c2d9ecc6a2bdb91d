-- What a request comes to, and on what that rests: all is said of the history that the token of its context has
-- seen by then.
use Rattle.std.specs.Prelude.{◌<◌, ◌≡◌, ◌≤◌, ◌⊎◌}
use Rattle.quote_gateway.specs.Words.{[], ℕ, AllowedText, Answer, Answers, Asked, DoesOrMemory, Fail, Fork, GatewayFault, Happened, HasExpired, History, IfSome, IsCancelled, Join}
use Rattle.quote_gateway.specs.Words.{List, MatchResult, MoveOn, NoAnswer, None, Open, Opening, Option, Options, Outcome, OwnerValue, PartText, PlanValue, Policy, RealmStep, Refusal, Result, Some}
use Rattle.quote_gateway.specs.Words.{TaskState, Tick, closed, false, history_seen, label, labels_of, listing_by, map, moment, opening, outcome, policy_of, scopes, state, tasks_of, true}
use Rattle.quote_gateway.specs.Going.{HasRejected, IsOneOf, IsRefusedAt, IsTurnedDown}

-- the plan allows the text, or the text says some of the prices and that is so
abbrev pub Allows : PlanValue → Type 0 → List ℕ → Type 0
Allows plan Expired text = AllowedText plan text ⊎ (Expired × PartText plan text)

-- ---- the scope of a request

-- scope s was opened by the actor, with this joiner and these options
pub record IsOpenedFor (h : History) (a s : ℕ) (policy : Policy) (options : Options) : Type 0 where
  pub opened : Opening
  pub is : opening h s ≡ Some opened
  pub owner : opened.actor ≡ a
  pub joiner : opened.policy ≡ policy
  pub told : opened.options ≡ options

-- since the token had seen less, its actor opened scope s for the plan, and has closed it
pub record IsScopeFor (old new : OwnerValue) (plan : PlanValue) (options : Options) (s : ℕ) : Type 0 where
  pub later : scopes (history_seen old) < s
  pub opened : IsOpenedFor (history_seen new) new.actor s (policy_of plan.mode) options
  pub over : closed (history_seen new) s ≡ true

-- the tasks of scope s, in fork order, with their states
abbrev pub states_in : History → ℕ → List TaskState
states_in h s = listing_by (state h) (tasks_of h s)

-- the tasks of scope s have, in fork order, the labels of the plan's offers; it was joined, and this holds of their
-- states and of what the join gave
pub record IsFound (h : History) (plan : PlanValue) (s : ℕ) (Holds : List TaskState → Outcome → Type 0) : Type 0 where
  pub asked : map (label h) (tasks_of h s) ≡ map Some (labels_of plan)
  pub came : Outcome
  pub joined : outcome h s ≡ Some came
  pub holds : Holds (states_in h s) came

-- a scope was opened for the plan, and is closed; and that is found in it
pub record WasServed (old new : OwnerValue) (plan : PlanValue) (options : Options) (Holds : List TaskState → Outcome → Type 0) : Type 0 where
  pub scope : ℕ
  pub opened : IsScopeFor old new plan options scope
  pub found : IsFound (history_seen new) plan scope Holds

-- the answer rests on what the join gave, and on the states of just these tasks
abbrev pub MakesAnswer : PlanValue → Answer → List TaskState → Outcome → Type 0
MakesAnswer plan a tasks o = Answers plan.mode plan.offers tasks o a

-- the answer rests on such a scope: on what its join gave, and on the states of just its tasks
abbrev pub RestsOn : OwnerValue → OwnerValue → PlanValue → Options → Answer → Type 0
RestsOn old new plan options a = WasServed old new plan options (MakesAnswer plan a)

-- ---- why there is no answer

-- the outcome shows what was there at the deadline
abbrev pub IsPartial : Outcome → Type 0
IsPartial (Outcome.Partial states) = Unit {0}
IsPartial _ = ⊥

-- no answer rests on the outcome and the states
abbrev pub NoneRests : PlanValue → List TaskState → Outcome → Type 0
NoneRests plan tasks o = (a : Answer) → Answers plan.mode plan.offers tasks o a → ⊥

-- the scope was cancelled, or its time ran out by a clock that doesn't say so
abbrev pub WasCancelled : Type 0 → Outcome → Type 0
WasCancelled Expired o = IsCancelled o ⊎ (IsPartial o × (Expired → ⊥))

-- a call was refused
abbrev pub IsOfCall : GatewayFault → Type 0
IsOfCall GatewayFault.Memory = Unit {0}
IsOfCall GatewayFault.Rejected = Unit {0}
IsOfCall _ = ⊥

abbrev pub fault_of : NoAnswer → GatewayFault
fault_of NoAnswer.Lost = GatewayFault.Lost
fault_of NoAnswer.Cancelled = GatewayFault.Cancelled
fault_of NoAnswer.Memory = GatewayFault.Memory

-- why the outcome and the states make no answer
abbrev pub MakesNone : PlanValue → Type 0 → List TaskState → Outcome → GatewayFault → Type 0
MakesNone plan Expired tasks o GatewayFault.Lost = NoneRests plan tasks o
MakesNone plan Expired tasks o GatewayFault.Cancelled = WasCancelled Expired o
MakesNone plan Expired tasks o GatewayFault.Memory = Unit {0}
MakesNone plan Expired tasks o _ = ⊥

-- what the outcome and the states make: an answer, or none
abbrev pub MakesBy : PlanValue → Type 0 → List TaskState → Outcome → Result Answer GatewayFault → Type 0
MakesBy plan Expired tasks o result = MatchResult result (λ a. MakesAnswer plan a tasks o) (MakesNone plan Expired tasks o)

-- the step is one that the actor takes for the plan in scope s and that may be refused: it forks a job of the plan,
-- joins, or tells the moment
abbrev pub IsStepIn : PlanValue → ℕ → ℕ → RealmStep → Type 0
IsStepIn plan a s (Happened (Fork actor scope label)) = (actor ≡ a) × (scope ≡ s) × IsOneOf label (labels_of plan)
IsStepIn plan a s (Happened (Join actor scope)) = (actor ≡ a) × (scope ≡ s)
IsStepIn plan a s (Asked actor (Tick now)) = actor ≡ a
IsStepIn plan a s _ = ⊥

-- the rules refused such a step, on what the token had seen by then, for another cause than memory
pub record WasRefused (old new : OwnerValue) (plan : PlanValue) (s : ℕ) : Type 0 where
  pub step : RealmStep
  pub of : IsStepIn plan new.actor s step
  pub refused : IsRefusedAt old new step

-- such a step was refused, or a task of scope s with the label of an offer is rejected: its thread was refused
abbrev pub IsRejectedIn : OwnerValue → OwnerValue → PlanValue → ℕ → Type 0
IsRejectedIn old new plan s = WasRefused old new plan s ⊎ HasRejected (history_seen new) s (labels_of plan)

-- a scope was opened for the plan, and is closed, and that is so in it
pub record WasRejected (old new : OwnerValue) (plan : PlanValue) (options : Options) : Type 0 where
  pub scope : ℕ
  pub opened : IsScopeFor old new plan options scope
  pub rejected : IsRejectedIn old new plan scope

-- the rules refused the open of such a scope
abbrev pub IsNotOpened : OwnerValue → OwnerValue → PlanValue → Options → Type 0
IsNotOpened old new plan options = IsRefusedAt old new (Happened (Open old.actor (policy_of plan.mode) options))

-- why nothing is found in scope s
abbrev pub FindsNone : OwnerValue → OwnerValue → PlanValue → ℕ → Type 0 → GatewayFault → Type 0
FindsNone old new plan s Expired GatewayFault.Lost = IsFound (history_seen new) plan s (NoneRests plan)
FindsNone old new plan s Expired GatewayFault.Cancelled = IsFound (history_seen new) plan s (λ tasks o. WasCancelled Expired o)
FindsNone old new plan s Expired why = IsTurnedDown (IsRejectedIn old new plan s) why

-- why a request whose jobs are the plan's has no answer
abbrev pub Fails : OwnerValue → OwnerValue → PlanValue → Options → Type 0 → GatewayFault → Type 0
Fails old new plan options Expired GatewayFault.Lost = WasServed old new plan options (NoneRests plan)
Fails old new plan options Expired GatewayFault.Cancelled = WasServed old new plan options (λ tasks o. WasCancelled Expired o)
Fails old new plan options Expired why = IsTurnedDown (IsNotOpened old new plan options ⊎ WasRejected old new plan options) why

-- what is found in scope s: an answer that rests on it, or nothing for a cause
abbrev pub Finds : OwnerValue → OwnerValue → PlanValue → ℕ → Type 0 → Result Answer GatewayFault → Type 0
Finds old new plan s Expired result = MatchResult result (λ a. IsFound (history_seen new) plan s (MakesAnswer plan a)) (FindsNone old new plan s Expired)

-- what a request whose jobs are the plan's comes to: an answer that rests on its scope, or none for a cause
abbrev pub ComesTo : OwnerValue → OwnerValue → PlanValue → Options → Type 0 → Result Answer GatewayFault → Type 0
ComesTo old new plan options Expired result = MatchResult result (RestsOn old new plan options) (Fails old new plan options Expired)

-- ---- the clock of a request

-- what a pulse told
abbrev pub Pulsed : OwnerValue → OwnerValue → Option ℕ → Result ℕ Refusal → Type 0
Pulsed old new reading result = IfSome reading (λ now. DoesOrMemory old new (Asked old.actor (Tick now)) (λ h. now) result)

-- the clock has been read, and the moment has come to what it read last
abbrev pub IsTold : History → Option ℕ → Type 0
IsTold h None = ⊥
IsTold h (Some now) = now ≤ moment h

-- ---- the options of a request's scope

abbrev pub without_deadline : Options
without_deadline = record { deadline = None; expiry = Fail; shield = false }

-- its time runs out at the deadline, and the join then shows what was there
abbrev pub moving_on : ℕ → Options
moving_on deadline = record { deadline = Some deadline; expiry = MoveOn; shield = false }

-- why a request by the deadline whose jobs are the plan's has no answer
abbrev pub FailsBy : OwnerValue → OwnerValue → PlanValue → (deadline : ℕ) (reading : Option ℕ) → GatewayFault → Type 0
FailsBy old new plan deadline reading why = Fails old new plan (moving_on deadline) (HasExpired deadline reading) why

-- what the token was before it had seen anything
abbrev pub unused : OwnerValue → OwnerValue
unused token = record token { seen = [] }

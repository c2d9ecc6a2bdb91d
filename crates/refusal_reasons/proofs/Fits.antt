-- A command has a reason just if it is refused, and the reason is of that refusal.
use Rattle.std.specs.Prelude.{◌≡◌}
use Rattle.refusal_reasons.specs.{ℕ, ActorObstacle, Bool, Checked, Err, EventsFit, Explained, Failed, History, Limits, Name, None, Ok, Option, QueriesFit, Query, Reason, Refusal, Result}
use Rattle.refusal_reasons.specs.{RetirementsFit, RoomObstacle, Some, State, Tried, Value, binding_reply, bindings, bound_to, checked_then, closed, event_reason, explained, false, fault_reply}
use Rattle.refusal_reasons.specs.{fault_shown, forked_count, innermost, is_some, nat_le, not, opened_count, option_map_or, pending_task, query_check, query_reason, reading_check, reading_reason}
use Rattle.refusal_reasons.specs.{reason_of, reason_refusal, refusal_of, refuse_if, refused_alone, refusing, remade, result_reply, retire_check, retire_reason, room_refusal, shows_fault, shows_value}
use Rattle.refusal_reasons.specs.{state, then_check, true, until_check, value_shown}
use Rattle.refusal_reasons.proofs.Lemmas.{◌∙◌, actor_remade, ap, cond, ok_or, reading_remade, refl, retire_remade, row_remade, scope_remade, sym, task_remade, until_remade}

either_fits : (b : Bool) (x y : Reason) (r : Refusal) → reason_refusal x ≡ r → reason_refusal y ≡ r → reason_refusal (cond b x y) ≡ r
either_fits true x y r is also = is
either_fits false x y r is also = also

found_fits : (o : Option ℕ) (why : ℕ → Reason) (x : Reason) (r : Refusal) → ((n : ℕ) → reason_refusal (why n) ≡ r) → reason_refusal x ≡ r → reason_refusal (option_map_or why o x) ≡ r
found_fits None why x r same also = also
found_fits (Some n) why x r same also = same n

room_fits : (b : Bool) (x y : RoomObstacle) → room_refusal x ≡ Refusal.TooMany → room_refusal y ≡ Refusal.TooMany → room_refusal (cond b x y) ≡ Refusal.TooMany
room_fits true x y is also = is
room_fits false x y is also = also

-- what is said of a check that failed is of its refusal
reason_fits : (L : Limits) (h : History) (f : Failed) → reason_refusal (reason_of L h f) ≡ refusal_of f
reason_fits L h (Failed.Closing scope) = either_fits (closed h scope) _ _ Refusal.Closed refl refl
reason_fits L h (Failed.ClosingAround actor) = found_fits (innermost h actor) _ _ Refusal.Closed (λ s. refl) refl
reason_fits L h (Failed.Pending scope) = found_fits (pending_task h scope) _ _ Refusal.NotReady (λ k. refl) refl
reason_fits L h (Failed.Unclosed actor) = found_fits (innermost h actor) _ _ Refusal.Structure (λ s. refl) refl
reason_fits L h Failed.Scopes = room_fits (nat_le L.scopes (opened_count h)) _ _ refl refl
reason_fits L h Failed.Tasks = room_fits (nat_le L.tasks (forked_count h)) _ _ refl refl
reason_fits L h _ = refl

-- so is what explains a check
explained_fits : (L : Limits) (h : History) (x : Tried Failed) → remade refusal_of x ≡ refusing (explained L h x)
explained_fits L h (Ok done) = refl
explained_fits L h (Err f) = ap Err (sym (reason_fits L h f))

pub events_fit : EventsFit
unfolding event_reason
events_fit L h e = row_remade refusal_of L h e ∙ explained_fits L h _

pub retirements_fit : RetirementsFit
unfolding retire_check retire_reason
retirements_fit L h a = retire_remade refusal_of h a ∙ explained_fits L h _

-- ---- of queries

-- the first that fails refuses
then_fits : (c d : Checked) (x y : Explained) → c ≡ refusing x → d ≡ refusing y → then_check c d ≡ refusing (then_check x y)
unfolding then_check
then_fits c d (Ok done) y first next = rw first next
then_fits c d (Err r) y first next = rw first refl

alone : {A : Type 0} (c : Checked) (answer : Result A Refusal) → refused_alone (checked_then c answer) ≡ then_check c (refused_alone answer)
unfolding then_check
alone (Ok done) answer = refl
alone (Err r) answer = refl

value_fits : (h : History) (k : ℕ) (x : State) → refused_alone (value_shown x) ≡ refusing (shows_value h k x)
value_fits h k State.Unavailable = refl
value_fits h k (State.Success value) = refl
value_fits h k (State.Failed fault) = refl

fault_fits : (h : History) (k : ℕ) (x : State) → refused_alone (fault_shown x) ≡ refusing (shows_fault h k x)
fault_fits h k State.Unavailable = refl
fault_fits h k (State.Success value) = refl
fault_fits h k (State.Failed fault) = refl

reading_fits : (L : Limits) (h : History) (a k : ℕ) → reading_check h a k ≡ refusing (reading_reason L h a k)
unfolding reading_check
reading_fits L h a k = reading_remade refusal_of h a k ∙ explained_fits L h _

sees_fits : (h : History) (a : ℕ) (key : Name) (o : Option Value) → refused_alone (ok_or o Refusal.NotBound) ≡ refusing (refuse_if (not (is_some o)) (Reason.Actor a (ActorObstacle.Unbound key)))
sees_fits h a key None = refl
sees_fits h a key (Some value) = refl

pub queries_fit : QueriesFit
unfolding query_check query_reason result_reply fault_reply binding_reply until_check
queries_fit L h (Query.State task) = task_remade refusal_of h task ∙ explained_fits L h _
queries_fit L h (Query.Stage task) = task_remade refusal_of h task ∙ explained_fits L h _
queries_fit L h (Query.Result actor task) = alone _ _ ∙ then_fits _ _ _ _ (reading_fits L h actor task) (value_fits h task (state h task))
queries_fit L h (Query.Fault actor task) = alone _ _ ∙ then_fits _ _ _ _ (reading_fits L h actor task) (fault_fits h task (state h task))
queries_fit L h (Query.Cause scope) = scope_remade refusal_of h scope ∙ explained_fits L h _
queries_fit L h (Query.Until scope) = until_remade refusal_of h scope ∙ explained_fits L h _
queries_fit L h (Query.Counts scope) = scope_remade refusal_of h scope ∙ explained_fits L h _
queries_fit L h (Query.Get actor key) = alone _ _ ∙ then_fits _ _ _ _ (actor_remade refusal_of h actor ∙ explained_fits L h _) (sees_fits h actor key (bound_to key (bindings h actor)))

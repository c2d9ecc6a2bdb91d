-- What a reason says is so, and what passed before the check failed that it explains.
use Rattle.std.specs.Prelude.{◌≡◌}
use Rattle.refusal_reasons.specs.{ℕ, ActorObstacle, Bool, Err, Event, EventsAreTrue, Explained, Failed, History, IfErr, IsSo, Limits, Name, Ok, Presupposed, QueriesAreTrue, Query, Reason}
use Rattle.refusal_reasons.specs.{RetirementsAreTrue, State, TaskObstacle, Tried, answering, asker, bindings, bound_to, checks, event_reason, explained, false, is_some, known_actor, known_scope}
use Rattle.refusal_reasons.specs.{known_task, not, query_reason, reading_reason, reading_row, reason_of, refuse_if, retire_reason, retire_row, row_check, scope_of, shows_fault, shows_value, stage}
use Rattle.refusal_reasons.specs.{state, task_check, then_check, true, until_row, weight}
use Rattle.refusal_reasons.proofs.Lemmas.{ap, passes_too, refl, subst, task_passes}
use Rattle.refusal_reasons.proofs.Truth.{IsTrueOf, Says, actor_says, event_says, first_passes, forked, forked_in, none_of, reading_says, rest_passes, retire_says, scope_says, task_says, until_says}

-- ---- what passed before

presupposed : (L : Limits) (h : History) (a cost : ℕ) (x : Tried Failed) → Says (IsTrueOf L h a cost) x → IfErr x (Presupposed h)
presupposed L h a cost (Ok tt) says = tt
presupposed L h a cost (Err f) says = (says.of f refl).0

pub event_presupposes : (L : Limits) (h : History) (e : Event) → IfErr (row_check (λ f. f) L h e) (Presupposed h)
event_presupposes L h e = presupposed L h (asker e) (weight e) _ (event_says L h e)

pub retire_presupposes : (L : Limits) (h : History) (a : ℕ) → IfErr (checks (retire_row (λ f. f) h a)) (Presupposed h)
retire_presupposes L h a = presupposed L h a 0 _ (retire_says L h a)

pub reading_presupposes : (L : Limits) (h : History) (a k : ℕ) → IfErr (checks (reading_row (λ f. f) h a k)) (Presupposed h)
reading_presupposes L h a k = presupposed L h a 0 _ (reading_says L h a k)

pub until_presupposes : (L : Limits) (h : History) (s : ℕ) → IfErr (checks (until_row (λ f. f) h s)) (Presupposed h)
until_presupposes L h s = presupposed L h 0 0 _ (until_says L h s)

pub scope_presupposes : (L : Limits) (h : History) (s : ℕ) → IfErr (known_scope (λ f. f) h s) (Presupposed h)
scope_presupposes L h s = presupposed L h 0 0 _ (scope_says L h 0 0 s)

pub task_presupposes : (L : Limits) (h : History) (k : ℕ) → IfErr (known_task (λ f. f) h k) (Presupposed h)
task_presupposes L h k = presupposed L h 0 0 _ (task_says L h 0 0 k)

pub actor_presupposes : (L : Limits) (h : History) (a : ℕ) → IfErr (known_actor (λ f. f) h a) (Presupposed h)
actor_presupposes L h a = presupposed L h a 0 _ (actor_says L h a 0)

-- what answers passed, and what doesn't failed
pub answered : {A F : Type 0} (c : Tried F) (x y : A) → answering c x ≡ Ok y → c ≡ Ok tt
answered (Ok tt) x y is = refl
answered (Err f) x y is = absurd cc

pub unanswered : {A F : Type 0} (c : Tried F) (x : A) (f : F) → answering c x ≡ Err f → c ≡ Err f
unanswered (Ok tt) x f is = absurd cc
unanswered (Err g) x f is = let same : g ≡ f = cc in ap Err same

-- ---- what is said

said_so : (L : Limits) (h : History) (a cost : ℕ) (x : Tried Failed) → Says (IsTrueOf L h a cost) x → (r : Reason) → explained L h x ≡ Err r → IsSo L h a cost r
said_so L h a cost (Ok tt) says r is = absurd cc
said_so L h a cost (Err f) says r is = let same : reason_of L h f ≡ r = cc in subst (IsSo L h a cost) same (says.of f refl).1

pub events_true : EventsAreTrue
unfolding event_reason
events_true L h e r is = said_so L h (asker e) (weight e) _ (event_says L h e) r is

pub retirements_true : RetirementsAreTrue
unfolding retire_reason
retirements_true L h a r is = said_so L h a 0 _ (retire_says L h a) r is

-- ---- of queries

-- the first says so, and if it passes the second does
then_so : (P : Reason → Type 0) (x y : Explained) → ((r : Reason) → x ≡ Err r → P r) → (x ≡ Ok tt → (r : Reason) → y ≡ Err r → P r) → (r : Reason) → then_check x y ≡ Err r → P r
unfolding then_check
then_so P (Ok tt) y first second r is = second refl r is
then_so P (Err q) y first second r is = first r is

reading_passes : (L : Limits) (h : History) (a k : ℕ) → reading_reason L h a k ≡ Ok tt → known_task (λ f. f) h k ≡ Ok tt
reading_passes L h a k passes = first_passes _ _ (rest_passes _ _ (passes_too (reason_of L h) _ passes))

pub reading_known : (L : Limits) (h : History) (a k : ℕ) → reading_reason L h a k ≡ Ok tt → task_check h k ≡ Ok tt
reading_known L h a k passes = task_passes (λ f. f) h k (reading_passes L h a k passes)

value_so : (L : Limits) (h : History) (a k : ℕ) → known_task (λ f. f) h k ≡ Ok tt → (x : State) → state h k ≡ x → (r : Reason) → shows_value h k x ≡ Err r → IsSo L h a 0 r
value_so L h a k there State.Unavailable at r is =
    let f = forked h k there in
    let same : Reason.Task k (TaskObstacle.Unreadable (scope_of h k) (stage h k)) ≡ r = cc in
    subst (IsSo L h a 0) same (forked_in h k f.0 f.1, refl, at)
value_so L h a k there (State.Success value) at r is = absurd cc
value_so L h a k there (State.Failed fault) at r is = let same : Reason.Task k (TaskObstacle.Failed fault) ≡ r = cc in subst (IsSo L h a 0) same at

fault_so : (L : Limits) (h : History) (a k : ℕ) → known_task (λ f. f) h k ≡ Ok tt → (x : State) → state h k ≡ x → (r : Reason) → shows_fault h k x ≡ Err r → IsSo L h a 0 r
fault_so L h a k there State.Unavailable at r is =
    let f = forked h k there in
    let same : Reason.Task k (TaskObstacle.Unreadable (scope_of h k) (stage h k)) ≡ r = cc in
    subst (IsSo L h a 0) same (forked_in h k f.0 f.1, refl, at)
fault_so L h a k there (State.Success value) at r is = let same : Reason.Task k (TaskObstacle.Succeeded value) ≡ r = cc in subst (IsSo L h a 0) same at
fault_so L h a k there (State.Failed fault) at r is = absurd cc

sees_so : (L : Limits) (h : History) (a : ℕ) (key : Name) (b : Bool) → not (is_some (bound_to key (bindings h a))) ≡ b → (r : Reason) → refuse_if b (Reason.Actor a (ActorObstacle.Unbound key)) ≡ Err r → IsSo L h a 0 r
sees_so L h a key true e r is = let same : Reason.Actor a (ActorObstacle.Unbound key) ≡ r = cc in subst (IsSo L h a 0) same (refl, none_of (bound_to key (bindings h a)) e)
sees_so L h a key false e r is = absurd cc

pub queries_true : QueriesAreTrue
unfolding query_reason
queries_true L h (Query.State task) r is = said_so L h 0 0 _ (task_says L h 0 0 task) r is
queries_true L h (Query.Stage task) r is = said_so L h 0 0 _ (task_says L h 0 0 task) r is
queries_true L h (Query.Result actor task) r is = then_so (IsSo L h actor 0) _ _ (said_so L h actor 0 _ (reading_says L h actor task)) (λ passes. value_so L h actor task (reading_passes L h actor task passes) (state h task) refl) r is
queries_true L h (Query.Fault actor task) r is = then_so (IsSo L h actor 0) _ _ (said_so L h actor 0 _ (reading_says L h actor task)) (λ passes. fault_so L h actor task (reading_passes L h actor task passes) (state h task) refl) r is
queries_true L h (Query.Cause scope) r is = said_so L h 0 0 _ (scope_says L h 0 0 scope) r is
queries_true L h (Query.Until scope) r is = said_so L h 0 0 _ (until_says L h scope) r is
queries_true L h (Query.Counts scope) r is = said_so L h 0 0 _ (scope_says L h 0 0 scope) r is
queries_true L h (Query.Get actor key) r is = then_so (IsSo L h actor 0) _ _ (said_so L h actor 0 _ (actor_says L h actor 0)) (λ _. sees_so L h actor key _ refl) r is

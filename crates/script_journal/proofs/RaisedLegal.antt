-- A legal history is legal too if its scopes and tasks are counted from its base on.
use Rattle.std.proofs.Common.{[], ℕ, ◌&&◌, ◌+◌, ◌-◌, ◌<◌, ◌==◌, ◌∙◌, ◌∷◌, ◌≡◌, ◌≤◌, Bool, List, Ok, Some, add-one, ap, ap₂, arith, false, is_some, length, map, nat_le, nat_lt, not, refl, slice_get, subst, suc, sym, take, true}
use Rattle.std.proofs.Common.{zero}
use Rattle.script_journal.specs.{Accepts, BeginClose, Bind, Cancel, EndClose, Event, Finish, Fork, History, Join, Legal, Limits, Move, NumbersDecideNothing, Open, Refusal, Reject, Start, Tick, Unbind, actor_check, anew, before}
use Rattle.script_journal.specs.{followed, forking, is_running, known_actor, known_scope, known_task, opening, refuse_if, renumbered, row_check, scope_check, stage, task_check}
use Rattle.script_journal.proofs.Lemmas.{checks_at, entry_at, legal_before, legal_push, nat_tests, take_all, take_at}
use Rattle.script_journal.proofs.{RaisedChecks.accepts, RaisedChecks.passes_both, RaisedEvents.main_unforked, RaisedEvents.none_unopened, RaisedEvents.raise, RaisedEvents.raised_at, RaisedEvents.raised_before, Raising.raised}
use Rattle.script_journal.proofs.{Raising.up}
use Rattle.scope_rules.specs.declared.types.refusals.Refusal.TheVariants as refusal

-- ---- without the others the history is legal

module _ (S K : ℕ) (L : Limits) (h : History) (later : Legal L (raise S K h)) where
  -- the next event is accepted
  next : (n : ℕ) (e : Event) → slice_get h.events n ≡ Some e → Legal L (before h n) → Accepts L (before h n) e
  unfolding Legal
  next n e at legal =
      let there : slice_get (raise S K h).events n ≡ Some (raised S K e) = rw (raised_at S K h n, at) refl in
      let so : Accepts L (raise S K (before h n)) (raised S K e) = subst (λ (g : History). Accepts L g (raised S K e)) (raised_before S K h n) (later n (raised S K e) there) in
      let behind : Legal L (raise S K (before h n)) = subst (Legal L) (raised_before S K h n) (legal_before L (raise S K h) n later) in
      accepts S K L (before h n) legal behind e so

  so_far : (n : ℕ) → n ≤ length h.events → Legal L (before h n)
  unfolding Legal
  so_far zero is = λ i e at. absurd cc
  so_far (suc n) is =
      let it = entry_at h.events n (omega arith) in
      let legal = so_far n (omega arith) in
      let more : followed (before h n) it.0 ≡ before h (suc n) = ap (λ (es : List Event). record { base = h.base; events = es }) (sym (take_at h.events n it.0 it.1) ∙ ap (λ m. take m h.events) (add-one n)) in
      subst (Legal L) more (legal_push L (before h n) it.0 legal (next n it.0 it.1 legal))

  pub legal_without : Legal L h
  legal_without =
      let whole : before h (length h.events) ≡ h = ap (λ (es : List Event). record { base = h.base; events = es }) (take_all (length h.events) h.events (omega arith)) in
      subst (Legal L) whole (so_far (length h.events) (omega arith))

-- ---- an accepted event names numbers behind those of the base

up_back : (n k : ℕ) → n < k → up n (k - n) ≡ k
unfolding up
up_back n k more =
    let one : k - n ≡ suc (k - n - 1) = omega arith in
    rw one (omega arith)

retired_not : (n b : ℕ) → (nat_lt 0 n && nat_le n b) ≡ false → (n ≡ 0 → ⊥) → b < n
retired_not n b is none = grind (arith, nat_tests)

false_true : false ≡ true → ⊥
false_true is = absurd cc

there_if : (b : Bool) (r : Refusal) → refuse_if (not b) r ≡ Ok tt → b ≡ true
there_if true r passed = refl
there_if false r passed = absurd cc

module _ (h : History) where
  scope_since_base : (s : ℕ) → scope_check h s ≡ Ok tt → h.base.scopes < s
  unfolding known_scope
  scope_since_base s passed =
      let both = passes_both 0 0 (nat_lt 0 s && nat_le s h.base.scopes) (refuse_if (not (is_some (opening h s))) refusal.NoScope) passed in
      let opened = there_if (is_some (opening h s)) refusal.NoScope both.1 in
      retired_not s h.base.scopes both.0 (λ is. false_true (sym (ap is_some (ap (opening h) is ∙ none_unopened 0 0 h)) ∙ opened))

  task_since_base : (k : ℕ) → task_check h k ≡ Ok tt → h.base.tasks < k
  unfolding known_task
  task_since_base k passed =
      let both = passes_both 0 0 (nat_lt 0 k && nat_le k h.base.tasks) (refuse_if (not (is_some (forking h k))) refusal.NoTask) passed in
      let forked = there_if (is_some (forking h k)) refusal.NoTask both.1 in
      retired_not k h.base.tasks both.0 (λ is. false_true (sym (ap is_some (ap (forking h) is ∙ main_unforked 0 0 h)) ∙ forked))

  scope_back : (s : ℕ) → scope_check h s ≡ Ok tt → h.base.scopes + (s - h.base.scopes) ≡ s
  scope_back s passed = omega (arith, scope_since_base s passed)

  task_back : (k : ℕ) → task_check h k ≡ Ok tt → up h.base.tasks (k - h.base.tasks) ≡ k
  task_back k passed = up_back h.base.tasks k (task_since_base k passed)

  actor_back : (a : ℕ) → actor_check h a ≡ Ok tt → up h.base.tasks (a - h.base.tasks) ≡ a
  unfolding known_actor up
  actor_back zero passed = let none : zero - h.base.tasks ≡ zero = omega arith in rw none refl
  actor_back (suc k) passed =
      let some : (suc k == 0) ≡ false = grind (arith, nat_tests) in
      task_back (suc k) (checks_at (task_check h (suc k) ∷ refuse_if (not (is_running (stage h (suc k)))) refusal.WrongStage ∷ []) 0 (task_check h (suc k)) (rw some at passed) refl)

  event_back : (L : Limits) (e : Event) → Accepts L h e → raised h.base.scopes h.base.tasks (renumbered h.base e) ≡ e
  unfolding row_check
  event_back L (Open actor policy options) is = rw (actor_back actor (checks_at _ 0 _ is.passed refl)) refl
  event_back L (Fork actor scope label) is = rw (actor_back actor (checks_at _ 0 _ is.passed refl), scope_back scope (checks_at _ 1 _ is.passed refl)) refl
  event_back L (Reject task) is = rw (task_back task (checks_at _ 0 _ is.passed refl)) refl
  event_back L (Start task) is = rw (task_back task (checks_at _ 0 _ is.passed refl)) refl
  event_back L (Finish task end) is = rw (task_back task (checks_at _ 0 _ is.passed refl)) refl
  event_back L (Cancel scope) is = rw (scope_back scope (checks_at _ 0 _ is.passed refl)) refl
  event_back L (Move scope deadline) is = rw (scope_back scope (checks_at _ 0 _ is.passed refl)) refl
  event_back L (Tick now) is = refl
  event_back L (Bind actor pair) is = rw (actor_back actor (checks_at _ 0 _ is.passed refl)) refl
  event_back L (Unbind actor) is = rw (actor_back actor (checks_at _ 0 _ is.passed refl)) refl
  event_back L (Join actor scope) is = rw (actor_back actor (checks_at _ 0 _ is.passed refl), scope_back scope (checks_at _ 1 _ is.passed refl)) refl
  event_back L (BeginClose actor scope) is = rw (actor_back actor (checks_at _ 0 _ is.passed refl), scope_back scope (checks_at _ 1 _ is.passed refl)) refl
  event_back L (EndClose actor scope) is = rw (actor_back actor (checks_at _ 0 _ is.passed refl), scope_back scope (checks_at _ 1 _ is.passed refl)) refl

back : {A : Type 0} (f g : A → A) (xs : List A) → ((i : ℕ) (x : A) → slice_get xs i ≡ Some x → f (g x) ≡ x) → map f (map g xs) ≡ xs
back f g [] each = refl
back f g (x ∷ xs) each = ap₂ (λ y ys. y ∷ ys) (each 0 x refl) (back f g xs (λ i y at. each (suc i) y at))

-- the history is the one that is counted anew, with the others before it
raised_anew : (L : Limits) (h : History) → Legal L h → raise h.base.scopes h.base.tasks (anew h) ≡ h
unfolding Legal
raised_anew L h legal =
    let events = back (raised h.base.scopes h.base.tasks) (renumbered h.base) h.events (λ i e at. event_back (before h i) L e (legal i e at)) in
    let scopes : h.base.scopes + 0 ≡ h.base.scopes = omega arith in
    let tasks : h.base.tasks + 0 ≡ h.base.tasks = omega arith in
    rw (scopes, tasks) (ap (λ (es : List Event). record { base = h.base; events = es }) events)

pub numbers_decide_nothing : NumbersDecideNothing
numbers_decide_nothing L h legal = legal_without h.base.scopes h.base.tasks L (anew h) (subst (Legal L) (sym (raised_anew L h legal)) legal)

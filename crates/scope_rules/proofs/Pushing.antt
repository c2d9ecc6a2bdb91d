-- A legal history with an accepted event more is legal, and stays within its limits.
use Rattle.std.proofs.Common.{[], ℕ, ◌++◌, ◌+◌, ◌-◌, ◌<◌, ◌==◌, ◌∙◌, ◌∷◌, ◌≡◌, ◌≤◌, ◌⊎◌, Bool, List, Ok, Some, ap, arith, cond, false, fold, inl, inr, length, refl, slice_get, subst, suc, sym, true, zero}
use Rattle.scope_rules.specs.{Accepts, BeginClose, Bind, Binding, Cancel, Checked, EndClose, Event, FORK_LOAD, Finish, Fork, GREATEST_NUMBER, History.History, History.scopes, History.tasks, IsWithin, Join, Label, Legal.Legal}
use Rattle.scope_rules.specs.{Limits, Move, OPEN_LOAD, Options, Policy, Reject, STEP_LOAD, Start, Tick, Unbind, before, check_of, declared.types.events.Event.TheVariants.Open, first_stack, followed, forked_count, height_after}
use Rattle.scope_rules.specs.{is_cancelled, is_fork, is_open, load, opened_count, refuse_full, row_check, stack, stacked, sum_by, weight}
use Rattle.scope_rules.proofs.Words.{leb-false, ltb-false, sum_by-append, take-append-le, take_all}
use Rattle.scope_rules.proofs.{Accepted.checks_at, Accepted.not_refused, Accepted.or_left, Accepted.or_right, Owing.count_push, Stacks.cond_bound, Stacks.length_stacked}

pub entry_of_push : (es : List Event) (e x : Event) (i : ℕ) → slice_get (es ++ e ∷ []) i ≡ Some x → ((i < length es) × (slice_get es i ≡ Some x)) ⊎ ((i ≡ length es) × (x ≡ e))
entry_of_push [] e x zero at = inr (refl, cc)
entry_of_push [] e x (suc i) at = absurd cc
entry_of_push (y ∷ es) e x zero at = inl (omega arith, at)
entry_of_push (y ∷ es) e x (suc i) at =
    elim (entry_of_push es e x i at) [ inl h ↦ inl (omega (arith, h.0), h.1) | inr h ↦ inr (ap suc h.0, h.1) ]

pub before_push : (h : History) (e : Event) (i : ℕ) → i ≤ length h.events → before (followed h e) i ≡ before h i
before_push h e i within = ap (λ es. record { base = h.base; events = es }) (take-append-le i h.events (e ∷ []) within)

pub before_all : (h : History) (i : ℕ) → length h.events ≤ i → before h i ≡ h
before_all h i all = ap (λ es. record { base = h.base; events = es }) (take_all i h.events all)

-- an accepted event more is legal
pub legal_push : (L : Limits) (h : History) (e : Event) → Legal L h → Accepts L h e → Legal L (followed h e)
unfolding Legal
legal_push L h e legal ok i x at =
    elim (entry_of_push h.events e x i at) [
      | inl here ↦ subst (λ (g : History). Accepts L g x) (sym (before_push h e i (omega (arith, here.0)))) (legal i x here.1)
      | inr here ↦
          let whole : before (followed h e) i ≡ h = before_push h e i (omega (arith, here.0)) ∙ before_all h i (omega (arith, here.0)) in
          subst (λ (g : History). Accepts L g x) (sym whole) (subst (λ (y : Event). Accepts L h y) (sym here.1) ok)
    ]

-- the load grows by what the event costs
pub load_push : (h : History) (e : Event) → load (followed h e) ≡ load h + weight e
unfolding load
load_push h e =
    let sum : sum_by weight (h.events ++ e ∷ []) ≡ sum_by weight h.events + sum_by weight (e ∷ []) = sum_by-append weight h.events (e ∷ []) in
    let one : sum_by weight (e ∷ []) ≡ weight e = omega arith in
    omega (arith, sum, one)

fits : (L : Limits) (h : History) (n : ℕ) → refuse_full L h n ≡ Ok tt → load h + n ≤ L.load
fits L h n ok = ltb-false _ _ (not_refused _ _ ok)

unless_already : (b : Bool) (c : Checked) → b ≡ false → cond b (Ok tt) c ≡ Ok tt → c ≡ Ok tt
unless_already true c is passed = absurd cc
unless_already false c is passed = passed

-- an accepted event fits the limit of load
pub load_fits : (L : Limits) (h : History) (e : Event) → load h ≤ L.load → Accepts L h e → load h + weight e ≤ L.load
unfolding row_check
load_fits L h (Open actor policy options) within ok = fits L h OPEN_LOAD (checks_at _ 4 _ ok.passed refl)
load_fits L h (Fork actor scope label) within ok = fits L h FORK_LOAD (checks_at _ 7 _ ok.passed refl)
load_fits L h (Cancel scope) within ok = fits L h STEP_LOAD (unless_already (is_cancelled h scope) _ ok.recorded (checks_at _ 2 _ ok.passed refl))
load_fits L h (Move scope deadline) within ok = fits L h STEP_LOAD (checks_at _ 3 _ ok.passed refl)
load_fits L h (Tick now) within ok = fits L h STEP_LOAD (checks_at _ 1 _ ok.passed refl)
load_fits L h (Bind actor pair) within ok = fits L h STEP_LOAD (checks_at _ 1 _ ok.passed refl)
load_fits L h (Unbind actor) within ok = fits L h STEP_LOAD (checks_at _ 3 _ ok.passed refl)
load_fits L h (Reject task) within ok = omega (arith, within)
load_fits L h (Start task) within ok = omega (arith, within)
load_fits L h (Finish task end) within ok = omega (arith, within)
load_fits L h (Join actor scope) within ok = omega (arith, within)
load_fits L h (BeginClose actor scope) within ok = omega (arith, within)
load_fits L h (EndClose actor scope) within ok = omega (arith, within)

-- if an open is accepted there is a number for its scope, and the limit of scopes is not met
pub open_number : (L : Limits) (h : History) (a : ℕ) (policy : Policy) (options : Options) → check_of L h (Open a policy options) ≡ Ok tt → (opened_count h < L.scopes) × (scopes h < GREATEST_NUMBER)
unfolding row_check
open_number L h a policy options ok =
    let under = not_refused _ _ (checks_at _ 3 _ ok refl) in
    (leb-false L.scopes (opened_count h) (or_left _ _ under), leb-false GREATEST_NUMBER (scopes h) (or_right _ _ under))

-- if a fork is accepted there is a number for its task, and the limit of tasks is not met
pub fork_number : (L : Limits) (h : History) (a s : ℕ) (label : Label) → check_of L h (Fork a s label) ≡ Ok tt → (forked_count h < L.tasks) × (tasks h < GREATEST_NUMBER)
unfolding row_check
fork_number L h a s label ok =
    let under = not_refused _ _ (checks_at _ 6 _ ok refl) in
    (leb-false L.tasks (forked_count h) (or_left _ _ under), leb-false GREATEST_NUMBER (tasks h) (or_right _ _ under))

-- the event fits the limits of scopes and of tasks, and of their numbers
record NumbersFit (L : Limits) (h : History) (e : Event) : Type 0 where
  opened : opened_count h + cond {A = ℕ} (is_open e) 1 0 ≤ L.scopes
  scopes_fit : scopes h + cond {A = ℕ} (is_open e) 1 0 ≤ GREATEST_NUMBER
  forked : forked_count h + cond {A = ℕ} (is_fork e) 1 0 ≤ L.tasks
  tasks_fit : tasks h + cond {A = ℕ} (is_fork e) 1 0 ≤ GREATEST_NUMBER

-- an accepted event does
numbers_fit : (L : Limits) (h : History) (e : Event) → IsWithin L h → Accepts L h e → NumbersFit L h e
numbers_fit L h (Open actor policy options) within ok =
    let under = open_number L h actor policy options ok.passed in
    record { opened = omega (arith, under.0); scopes_fit = omega (arith, under.1); forked = omega (arith, within.forked); tasks_fit = omega (arith, within.tasks_fit) }
numbers_fit L h (Fork actor scope label) within ok =
    let under = fork_number L h actor scope label ok.passed in
    record { opened = omega (arith, within.opened); scopes_fit = omega (arith, within.scopes_fit); forked = omega (arith, under.0); tasks_fit = omega (arith, under.1) }
numbers_fit L h _ within ok = record { opened = omega (arith, within.opened); scopes_fit = omega (arith, within.scopes_fit); forked = omega (arith, within.forked); tasks_fit = omega (arith, within.tasks_fit) }

-- a realm within its limits is so after an accepted event
pub within_push : (L : Limits) (h : History) (e : Event) → IsWithin L h → Accepts L h e → IsWithin L (followed h e)
within_push L h e within ok =
    let opened = count_push is_open h.events e in
    let forked = count_push is_fork h.events e in
    let fit = numbers_fit L h e within ok in
    record {
      opened = omega (arith, opened, fit.opened);
      forked = omega (arith, forked, fit.forked);
      loaded = omega (arith, load_push h e, load_fits L h e within.loaded ok);
      scopes_fit = omega (arith, opened, fit.scopes_fit);
      tasks_fit = omega (arith, forked, fit.tasks_fit);
    }

height_weight : (a n : ℕ) (e : Event) → height_after a n e ≤ n + weight e
height_weight a n (Bind by pair) = cond_bound (by == a) (n + 1) n (n + 1) (omega arith) (omega arith)
height_weight a n (Unbind by) = cond_bound (by == a) (n - 1) n (n + 1) (omega arith) (omega arith)
height_weight a n _ = omega arith

sum_by-cons : (e : Event) (es : List Event) → sum_by weight (e ∷ es) ≡ weight e + sum_by weight es
sum_by-cons e es = sum_by-append weight (e ∷ []) es ∙ omega arith

stack_bound : (es : List Event) (bs : List Binding) (a : ℕ) → length (fold (stacked a) bs es) ≤ length bs + sum_by weight es
stack_bound [] bs a = omega arith
stack_bound (e ∷ es) bs a =
    let rest : length (fold (stacked a) (stacked a bs e) es) ≤ length (stacked a bs e) + sum_by weight es = stack_bound es (stacked a bs e) a in
    let step : length (stacked a bs e) ≤ length bs + weight e = rw (length_stacked a bs e) (height_weight a (length bs) e) in
    omega (arith, rest, step, sum_by-cons e es)

-- main's pairs are within the load
pub stack_within : (h : History) → length (stack h 0) ≤ load h
unfolding stack load
stack_within h = stack_bound h.events (first_stack h 0) 0

-- before the last event stands what there was
pub before_last : (h : History) (e : Event) → before (followed h e) (length h.events) ≡ h
before_last h e = before_push h e (length h.events) (omega arith) ∙ before_all h (length h.events) (omega arith)

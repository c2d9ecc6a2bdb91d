-- Of a scope that was never opened nothing is said, and it has no tasks.
use Rattle.std.proofs.Common.{[], ℕ, ◌&&◌, ◌==◌, ◌||◌, ◌∙◌, ◌∷◌, ◌≡◌, ◌≢◌, ◌⊎◌, Bool, List, None, Ok, Option, Some, ap, arith, cond, count_by, false, inl, inr, refl, subst, sym, true}
use Rattle.scope_rules.specs.{Accepts, Event, Finish, Forking, History.History, Join, Legal.Legal, Limits, Move, Origin.Origin, Scopes.joined, Stage, completion_of, completions, filter_map, followed, forking, is_at, is_stage}
use Rattle.scope_rules.specs.{is_task_of, joins, known_scope, last_of, move_of, opening, option_map_or, option_or, row_check, scope_check, stage, task_numbers}
use Rattle.scope_rules.proofs.Words.{eqb-true, ne_eqb}
use Rattle.scope_rules.proofs.{Accepted.checks_at, Accepted.not_not, Accepted.not_refused, Completions.count_by-cons, Growing.opening_stays, Nesting.IsOpened, Nesting.opened_some, OneEventMore.along, OneEventMore.joined_grows}
use Rattle.scope_rules.proofs.{Owing.if_refused, Prefixes.last_of-push}

-- a scope that passed was opened
pub scope_passed : (h : History) (s : ℕ) → scope_check h s ≡ Ok tt → IsOpened h s
unfolding known_scope
scope_passed h s passed = opened_some h s (opening h s) refl (not_not _ (not_refused _ _ (if_refused _ _ _ passed)))

stays_opened : (h : History) (e : Event) (s : ℕ) → IsOpened h s → IsOpened (followed h e) s
stays_opened h e s it = record { opened = it.opened; is = opening_stays h e s it.opened it.is }

either_true : (b c : Bool) → (b || c) ≡ true → (b ≡ true) ⊎ (c ≡ true)
either_true true c is = inl refl
either_true false c is = inr is

-- ---- joins

joins_opened : (L : Limits) (h : History) (e : Event) (s : ℕ) → Accepts L h e → joins s e ≡ true → IsOpened h s
unfolding row_check
joins_opened L h (Join actor scope) s ok it = subst (IsOpened h) (eqb-true scope s it) (scope_passed h scope (checks_at _ 1 _ ok.passed refl))
joins_opened L h _ s ok it = absurd cc

JoinedIsOpened : History → Type 0
JoinedIsOpened h = (s : ℕ) → joined h s ≡ true → IsOpened h s

join_start : (b : Origin) → JoinedIsOpened (record { base = b; events = [] })
unfolding JoinedIsOpened joined
join_start b s so = absurd cc

join_step : (L : Limits) (h : History) (e : Event) → Accepts L h e → JoinedIsOpened h → JoinedIsOpened (followed h e)
unfolding JoinedIsOpened
join_step L h e ok so s it =
    stays_opened h e s (elim (either_true (joined h s) (joins s e) (sym (joined_grows h e s) ∙ it)) [ inl old ↦ so s old | inr now ↦ joins_opened L h e s ok now ])

-- in a legal history what is joined was opened
pub joined_opened : (L : Limits) (h : History) (s : ℕ) → Legal L h → joined h s ≡ true → IsOpened h s
unfolding JoinedIsOpened
joined_opened L h s legal it = along L JoinedIsOpened join_start (λ g e lawful ok was. join_step L g e ok was) h legal s it

-- ---- moves

moves_opened : (L : Limits) (h : History) (e : Event) (s : ℕ) (d : Option ℕ) → Accepts L h e → move_of s e ≡ Some d → IsOpened h s
unfolding row_check
moves_opened L h (Move scope deadline) s d ok it = by (scope == s) refl it
  where
    by : (b : Bool) → (scope == s) ≡ b → cond b (Some deadline) None ≡ Some d → IsOpened h s
    by true is given = subst (IsOpened h) (eqb-true scope s is) (scope_passed h scope (checks_at _ 0 _ ok.passed refl))
    by false is given = absurd cc
moves_opened L h _ s d ok it = absurd cc

MovedIsOpened : History → Type 0
MovedIsOpened h = (s : ℕ) (d : Option ℕ) → last_of (move_of s) h.events ≡ Some d → IsOpened h s

move_start : (b : Origin) → MovedIsOpened (record { base = b; events = [] })
unfolding MovedIsOpened last_of
move_start b s d so = absurd cc

first_or : {A : Type 0} (o p : Option A) (x : A) → option_or o p ≡ Some x → (o ≡ Some x) ⊎ (p ≡ Some x)
first_or None p x is = inr is
first_or (Some y) p x is = inl is

move_step : (L : Limits) (h : History) (e : Event) → Accepts L h e → MovedIsOpened h → MovedIsOpened (followed h e)
unfolding MovedIsOpened
move_step L h e ok so s d it =
    stays_opened h e s (elim (first_or (move_of s e) (last_of (move_of s) h.events) d (sym (last_of-push (move_of s) h.events e) ∙ it)) [ inl now ↦ moves_opened L h e s d ok now | inr old ↦ so s d old ])

-- in a legal history what was moved was opened
pub moved_opened : (L : Limits) (h : History) (s : ℕ) (d : Option ℕ) → Legal L h → last_of (move_of s) h.events ≡ Some d → IsOpened h s
unfolding MovedIsOpened
moved_opened L h s d legal it = along L MovedIsOpened move_start (λ g e lawful ok was. move_step L g e ok was) h legal s d it

-- ---- tasks

-- no task was forked in the scope
abbrev pub HasNoTask : History → ℕ → Type 0
HasNoTask h s = (k : ℕ) (f : Forking) → forking h k ≡ Some f → f.scope ≢ s

task_of_none : (h : History) (s k : ℕ) (o : Option Forking) → HasNoTask h s → forking h k ≡ o → option_map_or (λ (f : Forking). f.scope == s) o false ≡ false
task_of_none h s k None none is = refl
task_of_none h s k (Some f) none is = ne_eqb f.scope s (none k f is)

pub no_task_of : (h : History) (s k : ℕ) → HasNoTask h s → is_task_of h s k ≡ false
unfolding is_task_of
no_task_of h s k none = task_of_none h s k (forking h k) none refl

completes_none : (h : History) (s : ℕ) (e : Event) → HasNoTask h s → completion_of h s e ≡ None
completes_none h s (Finish task end) none = ap (λ b. cond b (Some (record { task = task; end = end })) None) (no_task_of h s task none)
completes_none h s _ none = refl

nothing_mapped : {B : Type 0} (f : Event → Option B) (es : List Event) → ((e : Event) → f e ≡ None) → filter_map f es ≡ []
nothing_mapped f [] none = refl
nothing_mapped f (e ∷ es) none = rw (none e) (nothing_mapped f es none)

-- a scope without tasks has no completions
pub no_completions : (h : History) (s : ℕ) → HasNoTask h s → completions h s ≡ []
unfolding completions
no_completions h s none = nothing_mapped (completion_of h s) h.events (λ e. completes_none h s e none)

nothing_counted : (p : ℕ → Bool) (ns : List ℕ) → ((n : ℕ) → p n ≡ false) → count_by p ns ≡ 0
nothing_counted p [] none = refl
nothing_counted p (n ∷ ns) none =
    let first = count_by-cons p n ns in
    let here : cond {A = ℕ} (p n) 1 0 ≡ 0 = ap (λ b. cond {A = ℕ} b 1 0) (none n) in
    omega (arith, first, here, nothing_counted p ns none)

-- and none at any stage
pub no_tally : (h : History) (s : ℕ) (x : Stage) → HasNoTask h s → count_by (is_at h s x) (task_numbers h) ≡ 0
no_tally h s x none = nothing_counted (is_at h s x) (task_numbers h) (λ k. ap (λ b. b && is_stage x (stage h k)) (no_task_of h s k none))

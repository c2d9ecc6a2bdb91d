-- What is said of a check that fails is so of the history, check by check and row by row.
use Rattle.std.specs.Prelude.{◌&&◌, ◌+◌, ◌<◌, ◌==◌, ◌||◌, ◌∷◌, ◌≡◌}
use Rattle.refusal_reasons.specs.{[], ℕ, BeginClose, BeginsClose, Bind, Bool, Cancel, EndClose, Err, Event, FORK_LOAD, Failed, Finish, Fork, Forking}
use Rattle.refusal_reasons.specs.{GREATEST_NUMBER, History, IfSome, IsEvent, IsFirstPending, IsForkedIn, IsSo, Join, LEVEL_LIMIT, Limits, List, Move, None, OPEN_LOAD, Ok, Open, Opening, Option}
use Rattle.refusal_reasons.specs.{Presupposed, Reason, Reject, RoomObstacle, STEP_LOAD, ScopeObstacle, Some, Stage, Start, Tick, Tried, Unbind, asker, before, begins_closing, bound_as_opened, checks}
use Rattle.refusal_reasons.specs.{closed, closed_place, closed_reason, closing, closing_at, closing_place, ends, event_at, false, find, first_place, forked_count, forking, holds_last, in_closing}
use Rattle.refusal_reasons.specs.{innermost, is_cancelled, is_innermost, is_pending, is_running, is_some, is_waiting, joined, joined_place, joins, known_actor, known_scope, known_task, length}
use Rattle.refusal_reasons.specs.{load_fits, moment, nat_le, nat_lt, next_level, not, not_closing, not_joined, opened_count, opening, option_map_or, over_scopes, over_tasks, owned, owner_of, owns}
use Rattle.refusal_reasons.specs.{owns_task, pending_task, place_if, position, reading_row, ready, reason_of, refuse_if, retire_row, row_check, scope_of, scopes, settled, slice_get, stack, stage, suc}
use Rattle.refusal_reasons.specs.{task_joined, tasks, tasks_of, then_check, true, until_row, weight, zero}
use Rattle.refusal_reasons.proofs.Lemmas.{◌∙◌, actor_passes, ap, arith, cond, earliest_first, inl, inr, nat_tests, not-true, position-Some, refl, scope_passes, slice_get_cases, subst, sym}
use Rattle.refusal_reasons.proofs.Found.{closed_is, closing_is, joined_is, settled_is}

-- whatever check fails has P
pub record Says (P : Failed → Type 0) (x : Tried Failed) : Type 0 where
  pub of : (f : Failed) → x ≡ Err f → P f

module _ (P : Failed → Type 0) where
  says_ok : Says P (Ok tt)
  says_ok = record { of = λ f e. absurd cc }

  says_err : (f : Failed) → P f → Says P (Err f)
  says_err f is = record { of = λ g e. let same : f ≡ g = cc in subst P same is }

  says_if : (b : Bool) (f : Failed) → (b ≡ true → P f) → Says P (refuse_if b f)
  says_if true f is = says_err f (is refl)
  says_if false f is = says_ok

  -- one of two, the first before the second
  says_either : (b c : Bool) (f g : Failed) → (b ≡ true → P f) → (c ≡ true → P g) → Says P (cond b (Err f) (refuse_if c g))
  says_either true c f g is also = says_err f (is refl)
  says_either false c f g is also = says_if c g also

  says_unless : (b : Bool) (x : Tried Failed) → Says P x → Says P (cond b (Ok tt) x)
  says_unless true x says = says_ok
  says_unless false x says = says

  says_end : Says P (checks [])
  unfolding checks
  says_end = says_ok

  -- the first says so, and if it passes the others do
  says_more : (x : Tried Failed) (xs : List (Tried Failed)) → Says P x → (x ≡ Ok tt → Says P (checks xs)) → Says P (checks (x ∷ xs))
  unfolding checks then_check
  says_more (Ok tt) xs first others = others refl
  says_more (Err f) xs first others = first

pub first_passes : (x : Tried Failed) (xs : List (Tried Failed)) → checks (x ∷ xs) ≡ Ok tt → x ≡ Ok tt
unfolding checks then_check
first_passes (Ok tt) xs passes = refl
first_passes (Err f) xs passes = absurd cc

pub rest_passes : (x : Tried Failed) (xs : List (Tried Failed)) → checks (x ∷ xs) ≡ Ok tt → checks xs ≡ Ok tt
unfolding checks then_check
rest_passes (Ok tt) xs passes = passes
rest_passes (Err f) xs passes = absurd cc

-- ---- what is found

pub none_of : {A : Type 0} (o : Option A) → not (is_some o) ≡ true → o ≡ None
none_of None e = refl
none_of (Some x) e = absurd cc

some_of : {A : Type 0} (o : Option A) → not (is_some o) ≡ false → (x : A) × (o ≡ Some x)
some_of None e = absurd cc
some_of (Some x) e = (x, refl)

event_found : (h : History) (p : Event → Bool) (i : ℕ) → position p h.events ≡ Some i → IsEvent h (λ _. p) (i + 1)
event_found h p i at = elim (slice_get_cases h.events i).1 [
  | inl some ↦ (i, some.0, refl, some.2, subst (λ e. p e ≡ true) some.3 (position-Some p h.events i some.0 at).1)
  | inr past ↦ absurd (omega (arith, past.0, (position-Some p h.events i (Tick 0) at).0))
]

place_holds : (test : ℕ → Bool) (i j : ℕ) → place_if test j ≡ Some i → (j ≡ i) × (test j ≡ true)
place_holds test i j is = by (test j) is
  where
    by : (b : Bool) → cond b (Some j) None ≡ Some i → (j ≡ i) × (b ≡ true)
    by true is = let same : j ≡ i = cc in (same, refl)
    by false is = absurd cc

begins_at : (h : History) (s i : ℕ) → closing_at h s i ≡ true → BeginsClose h s (i + 1)
begins_at h s i holds = by (slice_get h.events i) refl holds
  where
    by : (o : Option Event) → slice_get h.events i ≡ o → option_map_or (begins_closing (before h i) s) o false ≡ true → BeginsClose h s (i + 1)
    by None at holds = absurd cc
    by (Some e) at holds = (i, e, refl, at, holds)

pub begins_close : (h : History) (s i : ℕ) → closing_place h s ≡ Some i → BeginsClose h s (i + 1)
unfolding closing_place first_place
begins_close h s i at =
    let first = earliest_first (place_if (closing_at h s)) i (length h.events) at in
    let held = place_holds (closing_at h s) i first.0 first.2 in
    begins_at h s i (subst (λ j. closing_at h s j ≡ true) held.0 held.1)

first_before : (p : ℕ → Bool) (x : ℕ) (xs : List ℕ) → p x ≡ false → (i : ℕ) → ((j l : ℕ) → j < i → slice_get xs j ≡ Some l → p l ≡ false) → (j l : ℕ) → j < suc i → slice_get (x ∷ xs) j ≡ Some l → p l ≡ false
first_before p x xs fails i before zero l less there = let same : x ≡ l = cc in subst (λ y. p y ≡ false) same fails
first_before p x xs fails i before (suc j) l less there = before j l (omega (arith, less)) there

-- what is found first
found_first : (p : ℕ → Bool) (ks : List ℕ) (k : ℕ) → find p ks ≡ Some k → (i : ℕ) × (slice_get ks i ≡ Some k) × (p k ≡ true) × ((j l : ℕ) → j < i → slice_get ks j ≡ Some l → p l ≡ false)
found_first p [] k at = absurd cc
found_first p (x ∷ xs) k at = by (p x) refl at (found_first p xs k)
  where
    by : (b : Bool) → p x ≡ b → cond b (Some x) (find p xs) ≡ Some k → (find p xs ≡ Some k → (i : ℕ) × (slice_get xs i ≡ Some k) × (p k ≡ true) × ((j l : ℕ) → j < i → slice_get xs j ≡ Some l → p l ≡ false))
        → (i : ℕ) × (slice_get (x ∷ xs) i ≡ Some k) × (p k ≡ true) × ((j l : ℕ) → j < i → slice_get (x ∷ xs) j ≡ Some l → p l ≡ false)
    by true holds at more = let same : x ≡ k = cc in (0, ap Some same, subst (λ y. p y ≡ true) same holds, λ j l less there. absurd (omega (arith, less)))
    by false fails at more =
        let rest = more at in
        (suc rest.0, rest.1, rest.2, first_before p x xs fails rest.0 rest.3)

pub first_pending : (h : History) (s k : ℕ) → pending_task h s ≡ Some k → IsFirstPending h s k
unfolding pending_task
first_pending h s k at = found_first (is_pending h) (tasks_of h s) k at

pub forked_in : (h : History) (k : ℕ) (f : Forking) → forking h k ≡ Some f → IsForkedIn h k (scope_of h k)
forked_in h k f at = (f, at, sym (ap (λ o. option_map_or (λ g. g.scope) o 0) at))

event_of : (h : History) (p : Event → Bool) (o : Option ℕ) → position p h.events ≡ o → is_some o ≡ true → IsEvent h (λ _. p) (event_at o)
event_of h p None at e = absurd cc
event_of h p (Some i) at e = event_found h p i at

closed_at : (h : History) (s : ℕ) → closed h s ≡ true → IsEvent h (λ _. ends s) (event_at (closed_place h.events s))
closed_at h s e = event_of h (ends s) (closed_place h.events s) refl (sym (closed_is h s) ∙ e)

joined_at : (h : History) (s : ℕ) → joined h s ≡ true → IsEvent h (λ _. joins s) (event_at (joined_place h.events s))
joined_at h s e = event_of h (joins s) (joined_place h.events s) refl (sym (joined_is h s) ∙ e)

begun_at : (h : History) (s : ℕ) → closing h s ≡ true → BeginsClose h s (event_at (closing_place h s))
begun_at h s e = by (closing_place h s) refl (sym (closing_is h s) ∙ e)
  where
    by : (o : Option ℕ) → closing_place h s ≡ o → is_some o ≡ true → BeginsClose h s (event_at o)
    by None at e = absurd cc
    by (Some i) at e = begins_close h s i at

-- ---- numbers and stages

both : (b c : Bool) → (b && c) ≡ true → (b ≡ true) × (c ≡ true)
both true c e = (refl, e)
both false c e = absurd cc

-- what is known is there
known : (b c : Bool) (f g : Failed) → (cond b (Err f) (refuse_if c g)) ≡ Ok tt → c ≡ false
known true c f g e = absurd cc
known false true f g e = absurd cc
known false false f g e = refl

opened : (h : History) (s : ℕ) → known_scope (λ f. f) h s ≡ Ok tt → (o : Opening) × (opening h s ≡ Some o)
unfolding known_scope
opened h s e = some_of (opening h s) (known (nat_lt 0 s && nat_le s h.base.scopes) (not (is_some (opening h s))) (Failed.ScopeRetired s) (Failed.ScopeUnknown s) e)

pub forked : (h : History) (k : ℕ) → known_task (λ f. f) h k ≡ Ok tt → (f : Forking) × (forking h k ≡ Some f)
unfolding known_task
forked h k e = some_of (forking h k) (known (nat_lt 0 k && nat_le k h.base.tasks) (not (is_some (forking h k))) (Failed.TaskRetired k) (Failed.TaskUnknown k) e)

not_waiting : (x : Stage) → not (is_waiting x) ≡ true → x ≡ Stage.Waiting → ⊥
not_waiting x e same = let waits : is_waiting x ≡ true = ap is_waiting same in absurd cc

not_running : (x : Stage) → not (is_running x) ≡ true → x ≡ Stage.Running → ⊥
not_running x e same = let runs : is_running x ≡ true = ap is_running same in absurd cc

not_same : (m n : ℕ) → (m == n) ≡ false → m ≡ n → ⊥
not_same m n e same = absurd (grind (arith, nat_tests, e, same))

main_acts : (a : ℕ) → refuse_if (not (a == 0)) (Failed.NotMain a) ≡ Ok tt → a ≡ 0
main_acts a passes = by (a == 0) refl passes
  where
    by : (b : Bool) → (a == 0) ≡ b → refuse_if (not b) (Failed.NotMain a) ≡ Ok tt → a ≡ 0
    by true e passes = grind (arith, nat_tests, e)
    by false e passes = absurd cc

-- what is said of a check that failed is so, and the checks passed that the saying goes by
abbrev pub IsTrueOf : Limits → History → ℕ → ℕ → Failed → Type 0
IsTrueOf L h a cost f = Presupposed h f × IsSo L h a cost (reason_of L h f)

module _ (L : Limits) (h : History) (a cost : ℕ) where
  pub scope_says : (s : ℕ) → Says (IsTrueOf L h a cost) (known_scope (λ f. f) h s)
  unfolding known_scope
  scope_says s = says_either (IsTrueOf L h a cost) (nat_lt 0 s && nat_le s h.base.scopes) (not (is_some (opening h s))) (Failed.ScopeRetired s) (Failed.ScopeUnknown s)
      (λ e. let bs = both (nat_lt 0 s) (nat_le s h.base.scopes) e in (tt, (grind (arith, nat_tests, bs.0), grind (arith, nat_tests, bs.1), refl))) (λ e. (tt, (none_of (opening h s) e, refl)))

  pub task_says : (k : ℕ) → Says (IsTrueOf L h a cost) (known_task (λ f. f) h k)
  unfolding known_task
  task_says k = says_either (IsTrueOf L h a cost) (nat_lt 0 k && nat_le k h.base.tasks) (not (is_some (forking h k))) (Failed.TaskRetired k) (Failed.TaskUnknown k)
      (λ e. let bs = both (nat_lt 0 k) (nat_le k h.base.tasks) e in (tt, (grind (arith, nat_tests, bs.0), grind (arith, nat_tests, bs.1), refl))) (λ e. (tt, (none_of (forking h k) e, refl)))

  waits_says : (k : ℕ) → Says (IsTrueOf L h a cost) (refuse_if (not (is_waiting (stage h k))) (Failed.NotWaiting k))
  waits_says k = says_if _ _ _ (λ e. (tt, (refl, not_waiting (stage h k) e)))

  runs_says : (k : ℕ) → Says (IsTrueOf L h a cost) (refuse_if (not (is_running (stage h k))) (Failed.NotRunning k))
  runs_says k = says_if _ _ _ (λ e. (tt, (refl, not_running (stage h k) e)))

  pub actor_says : Says (IsTrueOf L h a cost) (known_actor (λ f. f) h a)
  unfolding known_actor
  actor_says = says_unless _ (a == 0) _ (says_more _ _ _ (task_says a) (λ _. says_more _ _ _ (runs_says a) (λ _. says_end _)))

  -- ---- owners

  owned_says : (s : ℕ) → known_scope (λ f. f) h s ≡ Ok tt → Says (IsTrueOf L h a cost) (owned (λ f. f) h a s)
  unfolding owns
  owned_says s passes = says_if (IsTrueOf L h a cost) (not (owns h a s)) (Failed.NotOwner a s) (λ e.
      let o = opened h s passes in
      let owner : owner_of h s ≡ o.0.actor = ap (λ x. option_map_or (λ y. y.actor) x 0) o.1 in
      (tt, (refl, (λ same. other o.0 o.1 (not-true (owns h a s) e) (sym owner ∙ same)), o.0, o.1, sym owner)))
    where
      other : (o : Opening) → opening h s ≡ Some o → owns h a s ≡ false → o.actor ≡ a → ⊥
      other o at e same = absurd (not_same o.actor a (ap (λ x. option_map_or (λ y. y.actor == a) x false) (sym at) ∙ e) same)

  task_owned_says : (k : ℕ) → known_task (λ f. f) h k ≡ Ok tt → Says (IsTrueOf L h a cost) (refuse_if (not (owns_task h a k)) (Failed.NotTaskOwner a k))
  unfolding owns
  task_owned_says k passes = says_if (IsTrueOf L h a cost) (not (owns_task h a k)) (Failed.NotTaskOwner a k) (λ e.
      let f = forked h k passes in
      (tt, (refl, forked_in h k f.0 f.1, other f.0 f.1 (not-true (owns_task h a k) e))))
    where
      of_opening : (s : ℕ) (o : Option Opening) → opening h s ≡ o → owns h a s ≡ false → IfSome o (λ o. (o.actor ≡ owner_of h s) × ((owner_of h s ≡ a) → ⊥))
      of_opening s None at e = tt
      of_opening s (Some o) at e =
          let owner : owner_of h s ≡ o.actor = ap (λ x. option_map_or (λ y. y.actor) x 0) at in
          (sym owner, λ same. absurd (not_same o.actor a (ap (λ x. option_map_or (λ y. y.actor == a) x false) (sym at) ∙ e) (sym owner ∙ same)))

      other : (f : Forking) → forking h k ≡ Some f → owns_task h a k ≡ false → IfSome (opening h (scope_of h k)) (λ o. (o.actor ≡ owner_of h (scope_of h k)) × ((owner_of h (scope_of h k) ≡ a) → ⊥))
      other f at e =
          let scope : scope_of h k ≡ f.scope = ap (λ x. option_map_or (λ g. g.scope) x 0) at in
          let owns : owns h a (scope_of h k) ≡ false = ap (owns h a) scope ∙ (ap (λ x. option_map_or (λ g. owns h a g.scope) x false) (sym at) ∙ e) in
          of_opening (scope_of h k) (opening h (scope_of h k)) refl owns

  main_says : Says (IsTrueOf L h a cost) (refuse_if (not (a == 0)) (Failed.NotMain a))
  main_says = says_if _ _ _ (λ e. (tt, (refl, not_same a 0 (not-true (a == 0) e))))

  -- ---- joins and closes

  closing_says : (s : ℕ) → Says (IsTrueOf L h a cost) (not_closing (λ f. f) h s)
  closing_says s = says_if _ _ _ (λ e. (tt, by (closed h s) refl e))
    where
      by : (b : Bool) → closed h s ≡ b → closing h s ≡ true → IsSo L h a cost (cond b (closed_reason h s) (Reason.Scope s (ScopeObstacle.Closing (event_at (closing_place h s)))))
      by true at e = closed_at h s at
      by false at e = (begun_at h s e, at)

  closed_says : (s : ℕ) → Says (IsTrueOf L h a cost) (refuse_if (closed h s) (Failed.Closed s))
  closed_says s = says_if _ _ _ (λ e. (tt, closed_at h s e))

  begun_says : (s : ℕ) → Says (IsTrueOf L h a cost) (refuse_if (not (closing h s)) (Failed.NotClosing s))
  begun_says s = says_if _ _ _ (λ e. (tt, not-true (closing h s) e))

  joined_says : (s : ℕ) → Says (IsTrueOf L h a cost) (not_joined (λ f. f) h s)
  joined_says s = says_if _ _ _ (λ e. (tt, joined_at h s e))

  task_joined_says : (k : ℕ) → known_task (λ f. f) h k ≡ Ok tt → Says (IsTrueOf L h a cost) (refuse_if (not (task_joined h k)) (Failed.NotJoined k))
  task_joined_says k passes = says_if _ _ _ (λ e.
      let f = forked h k passes in
      let scope : scope_of h k ≡ f.0.scope = ap (λ x. option_map_or (λ g. g.scope) x 0) f.1 in
      (tt, (forked_in h k f.0 f.1, ap (joined h) scope ∙ (ap (λ x. option_map_or (λ g. joined h g.scope) x false) (sym f.1) ∙ not-true (task_joined h k) e))))

  pending_so : (s : ℕ) → known_scope (λ f. f) h s ≡ Ok tt → settled h s ≡ false → IsTrueOf L h a cost (Failed.Pending s)
  pending_so s passes e = (scope_passes (λ f. f) h s passes, by (pending_task h s) refl (settled_is h s))
    where
      by : (o : Option ℕ) → pending_task h s ≡ o → settled h s ≡ not (is_some (pending_task h s)) → IsSo L h a cost (option_map_or (λ k. Reason.Scope s (ScopeObstacle.Awaits k (stage h k))) o (Reason.Scope s (ScopeObstacle.Awaits 0 Stage.Never)))
      by None at is = let none : settled h s ≡ true = is ∙ ap (λ o. not (is_some o)) at in absurd cc
      by (Some k) at is = (first_pending h s k at, refl)

  settled_says : (s : ℕ) → known_scope (λ f. f) h s ≡ Ok tt → Says (IsTrueOf L h a cost) (refuse_if (not (settled h s)) (Failed.Pending s))
  settled_says s passes = says_if _ _ _ (λ e. pending_so s passes (not-true (settled h s) e))

  ready_says : (s : ℕ) → known_scope (λ f. f) h s ≡ Ok tt → Says (IsTrueOf L h a cost) (refuse_if (not (ready h s)) (Failed.Pending s))
  unfolding ready
  ready_says s passes = says_if (IsTrueOf L h a cost) (not (is_cancelled h s || settled h s)) (Failed.Pending s) (λ e. pending_so s passes (neither (is_cancelled h s) (settled h s) e))
    where
      neither : (b c : Bool) → not (b || c) ≡ true → c ≡ false
      neither true c e = absurd cc
      neither false c e = not-true c e

  -- ---- nesting

  around_says : Says (IsTrueOf L h a cost) (refuse_if (in_closing h a) (Failed.ClosingAround a))
  unfolding in_closing
  around_says = says_if (IsTrueOf L h a cost) (in_closing h a) (Failed.ClosingAround a) (λ e. (tt, by (innermost h a) refl e))
    where
      by : (o : Option ℕ) → innermost h a ≡ o → option_map_or (closing h) o false ≡ true → IsSo L h a cost (option_map_or (λ s. Reason.Scope s (ScopeObstacle.ClosingAround a (event_at (closing_place h s)))) o (Reason.Scope 0 (ScopeObstacle.ClosingAround a 0)))
      by None at e = absurd cc
      by (Some s) at e = (refl, at, begun_at h s e)

  unclosed_says : (b : ℕ) → b ≡ a → Says (IsTrueOf L h a cost) (refuse_if (is_some (innermost h b)) (Failed.Unclosed b))
  unclosed_says b same = says_if _ _ _ (λ e. (tt, by (innermost h b) refl e))
    where
      by : (o : Option ℕ) → innermost h b ≡ o → is_some o ≡ true → IsSo L h a cost (option_map_or (λ s. Reason.Scope s (ScopeObstacle.Unclosed b)) o (Reason.Scope 0 (ScopeObstacle.Unclosed b)))
      by None at e = absurd cc
      by (Some s) at e = (same, ap (innermost h) (sym same) ∙ at)

  innermost_says : (s : ℕ) → Says (IsTrueOf L h a cost) (refuse_if (not (is_innermost h a s)) (Failed.NotInnermost a s))
  unfolding is_innermost
  innermost_says s = says_if (IsTrueOf L h a cost) (not (is_innermost h a s)) (Failed.NotInnermost a s) (λ e. (tt, (refl, refl, other (not-true (is_innermost h a s) e))))
    where
      other : is_innermost h a s ≡ false → innermost h a ≡ Some s → ⊥
      other e same = absurd (not_same s s (ap (λ x. option_map_or (λ t. t == s) x false) (sym same) ∙ e) refl)

  level_says : known_actor (λ f. f) h a ≡ Ok tt → Says (IsTrueOf L h a cost) (refuse_if (nat_lt LEVEL_LIMIT (next_level h a)) (Failed.TooDeep a))
  level_says passes = says_if _ _ _ (λ e. (actor_passes (λ f. f) h a passes, (refl, grind (arith, nat_tests, e))))

  -- ---- bindings

  alike_says : (s : ℕ) → known_actor (λ f. f) h a ≡ Ok tt → Says (IsTrueOf L h a cost) (refuse_if (not (bound_as_opened h a s)) (Failed.BoundOtherwise a s))
  alike_says s passes = says_if _ _ _ (λ e. (actor_passes (λ f. f) h a passes, (refl, refl, not-true (bound_as_opened h a s) e)))

  pair_says : Says (IsTrueOf L h a cost) (refuse_if (length (stack h a) == 0) (Failed.NoBinding a))
  pair_says = says_if _ _ _ (λ e. (tt, (refl, grind (arith, nat_tests, e))))

  held_says : known_actor (λ f. f) h a ≡ Ok tt → Says (IsTrueOf L h a cost) (refuse_if (holds_last h a) (Failed.HeldBinding a))
  held_says passes = says_if _ _ _ (λ e. (actor_passes (λ f. f) h a passes, (refl, refl, e)))

  -- ---- room and time

  load_says : Says (IsTrueOf L h a cost) (load_fits (λ f. f) L h cost)
  load_says = says_if _ _ _ (λ e. (tt, (refl, refl, refl, grind (arith, nat_tests, e))))

  scopes_say : Says (IsTrueOf L h a cost) (refuse_if (over_scopes L h) Failed.Scopes)
  scopes_say = says_if _ _ _ (λ e. (tt, by (nat_le L.scopes (opened_count h)) refl e))
    where
      by : (b : Bool) → nat_le L.scopes (opened_count h) ≡ b → (b || nat_le GREATEST_NUMBER (scopes h)) ≡ true → IsSo L h a cost (Reason.Room (cond b (RoomObstacle.Scopes (opened_count h) L.scopes) RoomObstacle.ScopeNumbers))
      by true at e = (refl, refl, grind (arith, nat_tests, at))
      by false at e = grind (arith, nat_tests, e)

  tasks_say : Says (IsTrueOf L h a cost) (refuse_if (over_tasks L h) Failed.Tasks)
  tasks_say = says_if _ _ _ (λ e. (tt, by (nat_le L.tasks (forked_count h)) refl e))
    where
      by : (b : Bool) → nat_le L.tasks (forked_count h) ≡ b → (b || nat_le GREATEST_NUMBER (tasks h)) ≡ true → IsSo L h a cost (Reason.Room (cond b (RoomObstacle.Tasks (forked_count h) L.tasks) RoomObstacle.TaskNumbers))
      by true at e = (refl, refl, grind (arith, nat_tests, at))
      by false at e = grind (arith, nat_tests, e)

  later_says : (now : ℕ) → Says (IsTrueOf L h a cost) (refuse_if (nat_lt now (moment h)) (Failed.ClockBack now))
  later_says now = says_if _ _ _ (λ e. (tt, (refl, grind (arith, nat_tests, e))))

-- ---- the rows

pub event_says : (L : Limits) (h : History) (e : Event) → Says (IsTrueOf L h (asker e) (weight e)) (row_check (λ f. f) L h e)
unfolding row_check
event_says L h (Open actor policy options) = says_more _ _ _ (actor_says L h actor OPEN_LOAD) (λ acts. says_more _ _ _ (around_says L h actor OPEN_LOAD) (λ _. says_more _ _ _ (level_says L h actor OPEN_LOAD acts) (λ _. says_more _ _ _ (scopes_say L h actor OPEN_LOAD) (λ _. says_more _ _ _ (load_says L h actor OPEN_LOAD) (λ _. says_end _)))))
event_says L h (Fork actor scope label) = says_more _ _ _ (actor_says L h actor FORK_LOAD) (λ acts. says_more _ _ _ (scope_says L h actor FORK_LOAD scope) (λ there. says_more _ _ _ (owned_says L h actor FORK_LOAD scope there) (λ _. says_more _ _ _ (closing_says L h actor FORK_LOAD scope) (λ _. says_more _ _ _ (joined_says L h actor FORK_LOAD scope) (λ _. says_more _ _ _ (alike_says L h actor FORK_LOAD scope acts) (λ _. says_more _ _ _ (tasks_say L h actor FORK_LOAD) (λ _. says_more _ _ _ (load_says L h actor FORK_LOAD) (λ _. says_end _))))))))
event_says L h (Reject task) = says_more _ _ _ (task_says L h task 0 task) (λ _. says_more _ _ _ (waits_says L h task 0 task) (λ _. says_end _))
event_says L h (Start task) = says_more _ _ _ (task_says L h task 0 task) (λ _. says_more _ _ _ (waits_says L h task 0 task) (λ _. says_end _))
event_says L h (Finish task end) = says_more _ _ _ (task_says L h task 0 task) (λ _. says_more _ _ _ (runs_says L h task 0 task) (λ _. says_more _ _ _ (unclosed_says L h task 0 task refl) (λ _. says_end _)))
event_says L h (Cancel scope) = says_more _ _ _ (scope_says L h 0 STEP_LOAD scope) (λ _. says_more _ _ _ (closing_says L h 0 STEP_LOAD scope) (λ _. says_more _ _ _ (says_unless _ (is_cancelled h scope) _ (load_says L h 0 STEP_LOAD)) (λ _. says_end _)))
event_says L h (Move scope deadline) = says_more _ _ _ (scope_says L h 0 STEP_LOAD scope) (λ _. says_more _ _ _ (closing_says L h 0 STEP_LOAD scope) (λ _. says_more _ _ _ (joined_says L h 0 STEP_LOAD scope) (λ _. says_more _ _ _ (load_says L h 0 STEP_LOAD) (λ _. says_end _))))
event_says L h (Tick now) = says_more _ _ _ (later_says L h 0 STEP_LOAD now) (λ _. says_more _ _ _ (load_says L h 0 STEP_LOAD) (λ _. says_end _))
event_says L h (Bind actor pair) = says_more _ _ _ (actor_says L h actor STEP_LOAD) (λ _. says_more _ _ _ (load_says L h actor STEP_LOAD) (λ _. says_end _))
event_says L h (Unbind actor) = says_more _ _ _ (actor_says L h actor STEP_LOAD) (λ acts. says_more _ _ _ (pair_says L h actor STEP_LOAD) (λ _. says_more _ _ _ (held_says L h actor STEP_LOAD acts) (λ _. says_more _ _ _ (load_says L h actor STEP_LOAD) (λ _. says_end _))))
event_says L h (Join actor scope) = says_more _ _ _ (actor_says L h actor 0) (λ _. says_more _ _ _ (scope_says L h actor 0 scope) (λ there. says_more _ _ _ (owned_says L h actor 0 scope there) (λ _. says_more _ _ _ (closing_says L h actor 0 scope) (λ _. says_more _ _ _ (joined_says L h actor 0 scope) (λ _. says_more _ _ _ (ready_says L h actor 0 scope there) (λ _. says_end _))))))
event_says L h (BeginClose actor scope) = says_more _ _ _ (actor_says L h actor 0) (λ _. says_more _ _ _ (scope_says L h actor 0 scope) (λ there. says_more _ _ _ (owned_says L h actor 0 scope there) (λ _. says_end _)))
event_says L h (EndClose actor scope) = says_more _ _ _ (actor_says L h actor 0) (λ _. says_more _ _ _ (scope_says L h actor 0 scope) (λ there. says_more _ _ _ (owned_says L h actor 0 scope there) (λ _. says_more _ _ _ (begun_says L h actor 0 scope) (λ _. says_more _ _ _ (closed_says L h actor 0 scope) (λ _. says_more _ _ _ (innermost_says L h actor 0 scope) (λ _. says_more _ _ _ (settled_says L h actor 0 scope there) (λ _. says_end _)))))))

pub retire_says : (L : Limits) (h : History) (a : ℕ) → Says (IsTrueOf L h a 0) (checks (retire_row (λ f. f) h a))
retire_says L h a = says_more _ _ _ (actor_says L h a 0) (λ _. says_more _ _ _ (main_says L h a 0) (λ main. says_more _ _ _ (unclosed_says L h a 0 0 (sym (main_acts a main))) (λ _. says_end _)))

pub reading_says : (L : Limits) (h : History) (a k : ℕ) → Says (IsTrueOf L h a 0) (checks (reading_row (λ f. f) h a k))
reading_says L h a k = says_more _ _ _ (actor_says L h a 0) (λ _. says_more _ _ _ (task_says L h a 0 k) (λ there. says_more _ _ _ (task_owned_says L h a 0 k there) (λ _. says_more _ _ _ (task_joined_says L h a 0 k there) (λ _. says_end _))))

pub until_says : (L : Limits) (h : History) (s : ℕ) → Says (IsTrueOf L h 0 0) (checks (until_row (λ f. f) h s))
until_says L h s = says_more _ _ _ (scope_says L h 0 0 s) (λ _. says_more _ _ _ (closed_says L h 0 0 s) (λ _. says_end _))

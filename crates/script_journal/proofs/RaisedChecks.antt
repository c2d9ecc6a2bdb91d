-- What is accepted if so many scopes and tasks were numbered before is accepted without them.
use Rattle.std.proofs.Common.{[], ℕ, ◌&&◌, ◌+◌, ◌==◌, ◌||◌, ◌∙◌, ◌∷◌, ◌≡◌, Bool, Err, List, Ok, Option, ap, arith, cond, false, is_some, nat_le, nat_lt, not, option_map, refl, suc, sym, true, zero}
use Rattle.script_journal.specs.{Accepts, BeginClose, Bind, Cancel, Checked, EndClose, Event, Finish, Fork, GREATEST_NUMBER, History, Join, Legal, Limits, Move, Open, Opening, Refusal, Reject, Start, Tick, Unbind}
use Rattle.script_journal.specs.{actor_check, check_of, checks, closing, forked_count, forking, in_closing, innermost, is_already, is_innermost, known_actor, known_scope, known_task, opened_count, opening, option_map_or}
use Rattle.script_journal.specs.{over_load, over_scopes, over_tasks, owner_check, owns, refuse_closing, refuse_full, refuse_if, refuse_joined, row_check, scope_check, task_check, then_check}
use Rattle.script_journal.proofs.Lemmas.{map_or_mapped, nat_tests, still_some}
use Rattle.script_journal.proofs.{RaisedCancels.raised_cancelled, RaisedEvents.raise, RaisedEvents.raised_forked, RaisedEvents.raised_forking, RaisedEvents.raised_load, RaisedEvents.raised_moment, RaisedEvents.raised_opened}
use Rattle.script_journal.proofs.{RaisedEvents.raised_opening, RaisedScopes.raised_closed, RaisedScopes.raised_closing, RaisedScopes.raised_innermost, RaisedScopes.raised_joined, RaisedScopes.raised_next_level}
use Rattle.script_journal.proofs.{RaisedTasks.raised_bound_as_opened, RaisedTasks.raised_holds_last, RaisedTasks.raised_ready, RaisedTasks.raised_settled, RaisedTasks.raised_stack, RaisedTasks.raised_stage, Raising.raised}
use Rattle.script_journal.proofs.{Raising.same_behind, Raising.up, Raising.up_forking, Raising.up_main, Raising.up_opening, Raising.up_same}
use Rattle.scope_rules.specs.declared.types.refusals.Refusal.TheVariants as refusal

-- the second check passes where the first does
abbrev Passes : Checked → Checked → Type 0
Passes c d = c ≡ Ok tt → d ≡ Ok tt

alike : (c d : Checked) → c ≡ d → Passes c d
alike c d same passed = sym same ∙ passed

-- in place of the first check another that passes where it does, and so for those behind it
step : (c d : Checked) (cs ds : List Checked) → Passes c d → Passes (checks cs) (checks ds) → Passes (checks (c ∷ cs)) (checks (d ∷ ds))
unfolding checks then_check
step (Ok done) d cs ds first others passed = rw (first refl) (others passed)
step (Err r) d cs ds first others passed = absurd cc

no_more : Passes (checks []) (checks [])
no_more passed = passed

refused_if_more : (b c : Bool) (r : Refusal) → (b ≡ false → c ≡ false) → Passes (refuse_if b r) (refuse_if c r)
refused_if_more true c r less passed = absurd cc
refused_if_more false c r less passed = rw (less refl) refl

refused_alike : (b c : Bool) (r : Refusal) → b ≡ c → Passes (refuse_if b r) (refuse_if c r)
refused_alike b c r same = refused_if_more b c r (λ is. sym same ∙ is)

module _ (S K : ℕ) where
  -- ---- numbers that are known

  not_retired : (s b : ℕ) → (nat_lt 0 (S + s) && nat_le (S + s) (S + b)) ≡ false → (nat_lt 0 s && nat_le s b) ≡ false
  not_retired s b is = grind (arith, nat_tests)

  pub passes_both : (retired : Bool) (c : Checked) → cond retired (Err refusal.Retired) c ≡ Ok tt → (retired ≡ false) × (c ≡ Ok tt)
  passes_both true c passed = absurd cc
  passes_both false c passed = (refl, passed)

  scope_known : (h : History) (s : ℕ) → Passes (scope_check (raise S K h) (S + s)) (scope_check h s)
  unfolding known_scope
  scope_known h s passed =
      let both = passes_both (nat_lt 0 (S + s) && nat_le (S + s) (S + h.base.scopes)) (refuse_if (not (is_some (opening (raise S K h) (S + s)))) refusal.NoScope) passed in
      let there : is_some (opening (raise S K h) (S + s)) ≡ is_some (opening h s) = ap is_some (raised_opening S K h s) ∙ still_some (up_opening K) (opening h s) in
      rw (not_retired s h.base.scopes both.0) (alike _ _ (ap (λ b. refuse_if (not b) refusal.NoScope) there) both.1)

  up_retired : (k b : ℕ) → (nat_lt 0 (up K k) && nat_le (up K k) (K + b)) ≡ (nat_lt 0 k && nat_le k b)
  unfolding up
  up_retired zero b = refl
  up_retired (suc k) b = grind (arith, nat_tests)

  task_same : (h : History) (k : ℕ) → task_check (raise S K h) (up K k) ≡ task_check h k
  unfolding known_task
  task_same h k = rw (up_retired k h.base.tasks, raised_forking S K h k, still_some (up_forking S K) (forking h k)) refl

  module _ (L : Limits) (h : History) (legal : Legal L h) (later : Legal L (raise S K h)) where
    actor_same : (a : ℕ) → actor_check (raise S K h) (up K a) ≡ actor_check h a
    unfolding known_actor
    actor_same a = rw (up_main K a, task_same h a, raised_stage S K L h legal later a) refl

    -- ---- what is asked of scopes and tasks

    owns_same : (a s : ℕ) → owns (raise S K h) (up K a) (S + s) ≡ owns h a s
    unfolding owns
    owns_same a s = rw (raised_opening S K h s) (map_or_mapped (up_opening K) _ _ (λ (o : Opening). up_same K o.actor a) false (opening h s))

    inner_same : (f g : ℕ → Bool) → ((s : ℕ) → f (S + s) ≡ g s) → (o : Option ℕ) → option_map_or f (option_map (λ t. S + t) o) false ≡ option_map_or g o false
    inner_same f g same o = map_or_mapped (λ t. S + t) f g same false o

    in_closing_same : (a : ℕ) → in_closing (raise S K h) (up K a) ≡ in_closing h a
    unfolding in_closing
    in_closing_same a = rw (raised_innermost S K h a) (inner_same (closing (raise S K h)) (closing h) (raised_closing S K h) (innermost h a))

    is_innermost_same : (a s : ℕ) → is_innermost (raise S K h) (up K a) (S + s) ≡ is_innermost h a s
    unfolding is_innermost
    is_innermost_same a s = rw (raised_innermost S K h a) (inner_same (λ t. t == S + s) (λ t. t == s) (λ t. same_behind S t s) (innermost h a))

    -- ---- limits

    over_less : (L_count n a b G : ℕ) → (nat_le L_count n || nat_le G (a + b + n)) ≡ false → (nat_le L_count n || nat_le G (b + n)) ≡ false
    over_less L_count n a b G is = grind (arith, nat_tests)

    scopes_less : over_scopes L (raise S K h) ≡ false → over_scopes L h ≡ false
    scopes_less is = over_less L.scopes (opened_count h) S h.base.scopes GREATEST_NUMBER (rw (raised_opened S K h) at is)

    tasks_less : over_tasks L (raise S K h) ≡ false → over_tasks L h ≡ false
    tasks_less is = over_less L.tasks (forked_count h) K h.base.tasks GREATEST_NUMBER (rw (raised_forked S K h) at is)

    load_same : (units : ℕ) → over_load L (raise S K h) units ≡ over_load L h units
    load_same units = rw (raised_load S K h) refl

    -- ---- the table

    acts : (a : ℕ) → Passes (actor_check (raise S K h) (up K a)) (actor_check h a)
    acts a = alike _ _ (actor_same a)

    known : (s : ℕ) → Passes (scope_check (raise S K h) (S + s)) (scope_check h s)
    known s = scope_known h s

    of_task : (k : ℕ) → Passes (task_check (raise S K h) (up K k)) (task_check h k)
    of_task k = alike _ _ (task_same h k)

    owned_too : (a s : ℕ) → Passes (owner_check (raise S K h) (up K a) (S + s)) (owner_check h a s)
    owned_too a s = alike _ _ (rw (owns_same a s) refl)

    not_closing_too : (s : ℕ) → Passes (refuse_closing (raise S K h) (S + s)) (refuse_closing h s)
    not_closing_too s = alike _ _ (rw (raised_closing S K h s) refl)

    not_joined_too : (s : ℕ) → Passes (refuse_joined (raise S K h) (S + s)) (refuse_joined h s)
    not_joined_too s = alike _ _ (rw (raised_joined S K h s) refl)

    fits : (units : ℕ) → Passes (refuse_full L (raise S K h) units) (refuse_full L h units)
    fits units = alike _ _ (rw (load_same units) refl)

    last : (c d : Checked) → Passes c d → Passes (checks (c ∷ [])) (checks (d ∷ []))
    last c d so = step c d [] [] so no_more

    pub passes : (e : Event) → Passes (check_of L (raise S K h) (raised S K e)) (check_of L h e)
    unfolding row_check
    passes (Open actor policy options) =
        step _ _ _ _ (acts actor)
        (step _ _ _ _ (refused_alike _ _ refusal.Closed (in_closing_same actor))
        (step _ _ _ _ (alike _ _ (rw (raised_next_level S K L h actor legal later) refl))
        (step _ _ _ _ (refused_if_more _ _ refusal.TooMany scopes_less)
        (last _ _ (fits _)))))
    passes (Fork actor scope label) =
        step _ _ _ _ (acts actor)
        (step _ _ _ _ (known scope)
        (step _ _ _ _ (owned_too actor scope)
        (step _ _ _ _ (not_closing_too scope)
        (step _ _ _ _ (not_joined_too scope)
        (step _ _ _ _ (alike _ _ (rw (raised_bound_as_opened S K h actor scope) refl))
        (step _ _ _ _ (refused_if_more _ _ refusal.TooMany tasks_less)
        (last _ _ (fits _))))))))
    passes (Reject task) = step _ _ _ _ (of_task task) (last _ _ (alike _ _ (rw (raised_stage S K L h legal later task) refl)))
    passes (Start task) = step _ _ _ _ (of_task task) (last _ _ (alike _ _ (rw (raised_stage S K L h legal later task) refl)))
    passes (Finish task end) =
        step _ _ _ _ (of_task task)
        (step _ _ _ _ (alike _ _ (rw (raised_stage S K L h legal later task) refl))
        (last _ _ (alike _ _ (rw (raised_innermost S K h task, still_some (λ t. S + t) (innermost h task)) refl))))
    passes (Cancel scope) =
        step _ _ _ _ (known scope)
        (step _ _ _ _ (not_closing_too scope)
        (last _ _ (alike _ _ (rw (raised_cancelled S K L h legal later scope, load_same _) refl))))
    passes (Move scope deadline) =
        step _ _ _ _ (known scope)
        (step _ _ _ _ (not_closing_too scope)
        (step _ _ _ _ (not_joined_too scope)
        (last _ _ (fits _))))
    passes (Tick now) = step _ _ _ _ (alike _ _ (rw (raised_moment S K h) refl)) (last _ _ (fits _))
    passes (Bind actor pair) = step _ _ _ _ (acts actor) (last _ _ (fits _))
    passes (Unbind actor) =
        step _ _ _ _ (acts actor)
        (step _ _ _ _ (alike _ _ (rw (raised_stack S K h actor) refl))
        (step _ _ _ _ (alike _ _ (rw (raised_holds_last S K h actor) refl))
        (last _ _ (fits _))))
    passes (Join actor scope) =
        step _ _ _ _ (acts actor)
        (step _ _ _ _ (known scope)
        (step _ _ _ _ (owned_too actor scope)
        (step _ _ _ _ (not_closing_too scope)
        (step _ _ _ _ (not_joined_too scope)
        (last _ _ (alike _ _ (rw (raised_ready S K L h legal later scope) refl)))))))
    passes (BeginClose actor scope) = step _ _ _ _ (acts actor) (step _ _ _ _ (known scope) (last _ _ (owned_too actor scope)))
    passes (EndClose actor scope) =
        step _ _ _ _ (acts actor)
        (step _ _ _ _ (known scope)
        (step _ _ _ _ (owned_too actor scope)
        (step _ _ _ _ (alike _ _ (rw (raised_closing S K h scope) refl))
        (step _ _ _ _ (alike _ _ (rw (raised_closed S K h scope) refl))
        (step _ _ _ _ (alike _ _ (rw (is_innermost_same actor scope) refl))
        (last _ _ (alike _ _ (rw (raised_settled S K L h legal later scope) refl))))))))

    already_same : (e : Event) → is_already (raise S K h) (raised S K e) ≡ is_already h e
    already_same (Cancel scope) = raised_cancelled S K L h legal later scope
    already_same (BeginClose actor scope) = raised_closing S K h scope
    already_same _ = refl

    pub accepts : (e : Event) → Accepts L (raise S K h) (raised S K e) → Accepts L h e
    accepts e is = record { passed = passes e is.passed; recorded = sym (already_same e) ∙ is.recorded }

-- How the environments that agree with a history go on by one event.
use Rattle.std.proofs.Common.{[], ℕ, ◌++◌, ◌+◌, ◌<◌, ◌==◌, ◌∙◌, ◌∷◌, ◌≡◌, ◌≢◌, Bool, Err, List, None, Ok, Option, Result, Some, ap, arith, cond, false, inl, inr, length, length-append, refl, set, slice_get, subst, sym, true}
use Rattle.scoped_env.specs.{AreEnvsOf, Bind, Binding, EnvTable.EnvTable, Event, Fork, Forking, HasEnv, History, Label, Layers.Layers, Legal, Limits, OnOk, Unbind, Words.stack, Words.tasks, all_pairs, bindings, followed}
use Rattle.scoped_env.specs.{forked_count, forking, inherited_as, inherited_by, inheriting, is_fork, layers_in, layers_of, moves_envs, option_or, place_in, stacked, with_fork, with_layers, with_pair, without_last_pair}
use Rattle.scoped_env.proofs.Words.{before_last, count_push, eq-eqb, eqb-false, eqb-true, forked_after, forking_grows, forking_other, forking_same, length-set, same_Some, stack_push, stacked_bind, stacked_bind_other}
use Rattle.scoped_env.proofs.Words.{stacked_unbind, stacked_unbind_other}
use Rattle.scoped_env.proofs.{Held.layers_there, ListSteps.get_of_push, ListSteps.slice_get-set_other, ListSteps.slice_get-set_same, Sights.layers_after, Sights.layers_at, Sights.sees_layers, Unforked.unforked_stack}

-- ---- an event that is no fork

-- an event that is no fork adds no task
no_more_forks : (h : History) (e : Event) → is_fork e ≡ false → forked_count (followed h e) ≡ forked_count h
no_more_forks h e other =
    let pushed = count_push is_fork h.events e in
    let none : cond {A = ℕ} (is_fork e) 1 0 ≡ 0 = ap (λ b. cond {A = ℕ} b 1 0) other in
    omega (arith, pushed, none)

-- an event that leaves what is seen is no fork
no_fork : (e : Event) → moves_envs e ≡ false → is_fork e ≡ false
no_fork (Fork actor scope label) other = absurd cc
no_fork _ other = refl

-- and leaves the own pairs of each actor
stack_unmoved : (a : ℕ) (bs : List Binding) (e : Event) → moves_envs e ≡ false → stacked a bs e ≡ bs
stack_unmoved a bs (Bind by pair) other = absurd cc
stack_unmoved a bs (Unbind by) other = absurd cc
stack_unmoved a bs _ other = refl

-- so all pairs of each actor stay
layers_stay : (h : History) (e : Event) (a : ℕ) → moves_envs e ≡ false → layers_of (followed h e) a ≡ layers_of h a
layers_stay h e a other =
    layers_after h e a (forking_same h e a (no_fork e other)) ∙ ap (layers_at (inherited_by h a)) (stack_unmoved a (stack h a) e other)

-- an event that is no bind, unbind or fork leaves the environments
pub envs_stay : (h : History) (e : Event) (t : EnvTable) → moves_envs e ≡ false → AreEnvsOf h t → AreEnvsOf (followed h e) t
envs_stay h e t other agrees = record {
  numbered = agrees.numbered;
  main = agrees.main ∙ sym (layers_stay h e 0 other);
  count = agrees.count ∙ sym (no_more_forks h e (no_fork e other));
  tasks = λ i x at. agrees.tasks i x at ∙ sym (layers_stay h e (t.before + 1 + i) other);
}

-- ---- an event that changes one actor's own pairs

-- the event makes the pairs of the actor so, and leaves those of the others
record ChangesOnly (h : History) (e : Event) (a : ℕ) (change : Layers → Layers) : Type 0 where
  no_fork : is_fork e ≡ false
  changed : layers_of (followed h e) a ≡ change (layers_of h a)
  others : (b : ℕ) → a ≢ b → layers_of (followed h e) b ≡ layers_of h b

-- the table with other pairs of main, or of a task
abbrev with_by : Bool → EnvTable → ℕ → Layers → EnvTable
with_by b t a e = cond b (record { before = t.before; main = e; tasks = t.tasks }) (record { before = t.before; main = t.main; tasks = set t.tasks (place_in t a) e })

module _ (h : History) (e : Event) (t : EnvTable) (a : ℕ) (change : Layers → Layers) (only : ChangesOnly h e a change) (agrees : AreEnvsOf h t) (has : HasEnv t a) where
  -- each task has its pairs after the event
  task_changed : (x : Layers) → x ≡ change (layers_of h a) → (i : ℕ) (y : Layers) (b : Bool) → 0 < a → (i == place_in t a) ≡ b → slice_get (set t.tasks (place_in t a) x) i ≡ Some y → y ≡ layers_of (followed h e) (t.before + 1 + i)
  task_changed x made i y true later is at =
      let since = has.since later in
      let here : i ≡ place_in t a = eqb-true i (place_in t a) is in
      let within : place_in t a < length t.tasks = omega (arith, since, has.within) in
      let number : t.before + 1 + i ≡ a = omega (arith, since, here) in
      let there : slice_get (set t.tasks (place_in t a) x) i ≡ Some x = ap (slice_get (set t.tasks (place_in t a) x)) here ∙ slice_get-set_same t.tasks (place_in t a) x within in
      same_Some y x (sym at ∙ there) ∙ (made ∙ (sym only.changed ∙ ap (layers_of (followed h e)) (sym number)))
  task_changed x made i y false later is at =
      let since = has.since later in
      let apart = eqb-false i (place_in t a) is in
      let old : slice_get t.tasks i ≡ Some y = sym (slice_get-set_other t.tasks (place_in t a) i x apart) ∙ at in
      let other : a ≢ t.before + 1 + i = λ (same : a ≡ t.before + 1 + i). apart (omega (arith, same)) in
      agrees.tasks i y old ∙ sym (only.others (t.before + 1 + i) other)

  -- and so has main
  changed_by : (b : Bool) → (a == 0) ≡ b → (x : Layers) → x ≡ change (layers_of h a) → AreEnvsOf (followed h e) (with_by b t a x)
  changed_by true is x made =
      let main : a ≡ 0 = eqb-true a 0 is in
      record {
        numbered = agrees.numbered;
        main = made ∙ (sym only.changed ∙ ap (layers_of (followed h e)) main);
        count = agrees.count ∙ sym (no_more_forks h e only.no_fork);
        tasks = λ i y at. agrees.tasks i y at ∙ sym (only.others (t.before + 1 + i) (λ (same : a ≡ t.before + 1 + i). omega (arith, main, same)));
      }
  changed_by false is x made =
      let other = eqb-false a 0 is in
      let later : 0 < a = omega (arith, other) in
      record {
        numbered = agrees.numbered;
        main = agrees.main ∙ sym (only.others 0 other);
        count = length-set t.tasks (place_in t a) x ∙ (agrees.count ∙ sym (no_more_forks h e only.no_fork));
        tasks = λ i y at. task_changed x made i y (i == place_in t a) later refl at;
      }

  -- the table in which the actor's pairs are changed so
  one_changed : AreEnvsOf (followed h e) (with_layers t a (change (layers_in t a)))
  one_changed = changed_by (a == 0) refl (change (layers_in t a)) (ap change (layers_there h t a agrees has))

-- a bind changes the pairs of its actor alone
bind_changes : (h : History) (a : ℕ) (pair : Binding) → ChangesOnly h (Bind a pair) a (λ e. with_pair e pair)
bind_changes h a pair = record {
  no_fork = refl;
  changed = layers_after h (Bind a pair) a (forking_same h (Bind a pair) a refl) ∙ ap (layers_at (inherited_by h a)) (stacked_bind a (stack h a) pair);
  others = λ b apart. layers_after h (Bind a pair) b (forking_same h (Bind a pair) b refl) ∙ ap (layers_at (inherited_by h b)) (stacked_bind_other b a (stack h b) pair apart);
}

-- and so does an unbind
unbind_changes : (h : History) (a : ℕ) → ChangesOnly h (Unbind a) a without_last_pair
unbind_changes h a = record {
  no_fork = refl;
  changed = layers_after h (Unbind a) a (forking_same h (Unbind a) a refl) ∙ ap (layers_at (inherited_by h a)) (stacked_unbind a (stack h a));
  others = λ b apart. layers_after h (Unbind a) b (forking_same h (Unbind a) b refl) ∙ ap (layers_at (inherited_by h b)) (stacked_unbind_other b a (stack h b) apart);
}

-- a bind that is not refused gives the actor the pair
pub bind_agrees : {A E : Type 0} (r : Result A E) (t u : EnvTable) (a : ℕ) (pair : Binding) → HasEnv t a → OnOk r (u ≡ with_layers t a (with_pair (layers_in t a) pair)) → OnOk r ((h : History) → AreEnvsOf h t → AreEnvsOf (followed h (Bind a pair)) u)
bind_agrees (Ok done) t u a pair has is = λ h agrees.
    subst (AreEnvsOf (followed h (Bind a pair))) (sym is) (one_changed h (Bind a pair) t a (λ e. with_pair e pair) (bind_changes h a pair) agrees has)
bind_agrees (Err error) t u a pair has is = tt

-- an unbind takes the actor's last own pair
pub unbind_agrees : (h : History) (t u : EnvTable) (a : ℕ) → HasEnv t a → u ≡ with_layers t a (without_last_pair (layers_in t a)) → AreEnvsOf h t → AreEnvsOf (followed h (Unbind a)) u
unbind_agrees h t u a has is agrees =
    subst (AreEnvsOf (followed h (Unbind a))) (sym is) (one_changed h (Unbind a) t a without_last_pair (unbind_changes h a) agrees has)

-- ---- a fork

module _ (L : Limits) (h : History) (t : EnvTable) (a s : ℕ) (label : Label) (legal : Legal L h) (has : HasEnv t a) (agrees : AreEnvsOf h t) where
  -- the next number was not given yet
  next_unforked : (o : Option Forking) → forking h (tasks h + 1) ≡ o → forking h (tasks h + 1) ≡ None
  next_unforked None is = is
  next_unforked (Some f) is = let it = forked_after h (tasks h + 1) f is in absurd (omega (arith, it.1, it.2))

  -- the fork gives it to the new task
  next_forked : forking (followed h (Fork a s label)) (tasks h + 1) ≡ Some (record { place = length h.events; actor = a; scope = s; label = label })
  next_forked =
      let none = next_unforked (forking h (tasks h + 1)) refl in
      let new : Forking = record { place = length h.events; actor = a; scope = s; label = label } in
      forking_grows h (Fork a s label) (tasks h + 1)
      ∙ (ap (λ o. option_or o (cond (tasks h + 1 == tasks h + 1) (Some new) None)) none
      ∙ ap (λ b. cond b (Some new) None) (eq-eqb (tasks h + 1) (tasks h + 1) refl))

  -- the new task inherits all that its forker sees
  next_layers : layers_of (followed h (Fork a s label)) (tasks h + 1) ≡ inheriting (layers_in t a)
  next_layers =
      let g = followed h (Fork a s label) in
      let inherits : inherited_by g (tasks h + 1) ≡ all_pairs (layers_in t a) =
      ap (inherited_as g) next_forked
      ∙ (ap (λ (k : History). bindings k a) (before_last h (Fork a s label))
      ∙ (sees_layers L h a legal ∙ ap all_pairs (sym (layers_there h t a agrees has)))) in
      let none : stack g (tasks h + 1) ≡ [] =
      stack_push h (Fork a s label) (tasks h + 1) ∙ unforked_stack L h (tasks h + 1) legal (omega arith) (next_unforked (forking h (tasks h + 1)) refl) in
      ap (λ xs. layers_at xs (stack g (tasks h + 1))) inherits ∙ ap (layers_at (all_pairs (layers_in t a))) none

  -- the pairs of the others stay
  others_stay : (b : ℕ) → tasks h + 1 ≢ b → layers_of (followed h (Fork a s label)) b ≡ layers_of h b
  others_stay b other = layers_after h (Fork a s label) b (forking_other h (Fork a s label) b other)

  -- each task has its pairs after the fork, the new one too
  tasks_forked : (i : ℕ) (x : Layers) → slice_get (t.tasks ++ inheriting (layers_in t a) ∷ []) i ≡ Some x → x ≡ layers_of (followed h (Fork a s label)) (t.before + 1 + i)
  tasks_forked i x at =
      elim (get_of_push t.tasks (inheriting (layers_in t a)) x i at) [
        | inl old ↦
            let other : tasks h + 1 ≢ t.before + 1 + i = λ (same : tasks h + 1 ≡ t.before + 1 + i). omega (arith, same, old.0, agrees.numbered, agrees.count) in
            agrees.tasks i x old.1 ∙ sym (others_stay (t.before + 1 + i) other)
        | inr new ↦
            let number : tasks h + 1 ≡ t.before + 1 + i = omega (arith, new.0, agrees.numbered, agrees.count) in
            new.1 ∙ (sym next_layers ∙ ap (layers_of (followed h (Fork a s label))) number)
      ]

  -- the table with the new task
  one_forked : AreEnvsOf (followed h (Fork a s label)) (with_fork t a)
  one_forked = record {
    numbered = agrees.numbered;
    main = agrees.main ∙ sym (others_stay 0 (λ (same : tasks h + 1 ≡ 0). omega (arith, same)));
    count = let longer = length-append t.tasks (inheriting (layers_in t a) ∷ []) in let pushed = count_push is_fork h.events (Fork a s label) in omega (arith, longer, pushed, agrees.count);
    tasks = tasks_forked;
  }

-- a fork adds what the forker sees
pub fork_agrees : (L : Limits) (h : History) (t u : EnvTable) (a s : ℕ) (label : Label) → Legal L h → HasEnv t a → u ≡ with_fork t a → AreEnvsOf h t → AreEnvsOf (followed h (Fork a s label)) u
fork_agrees L h t u a s label legal has is agrees =
    subst (AreEnvsOf (followed h (Fork a s label))) (sym is) (one_forked L h t a s label legal has agrees)

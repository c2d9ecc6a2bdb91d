-- What is refused behind a retirement.
use Rattle.std.proofs.Common.{[], ℕ, ◌++◌, ◌+◌, ◌==◌, ◌||◌, ◌∙◌, ◌∷◌, ◌≡◌, ◌≤◌, Bool, Err, List, None, Ok, Option, Some, ap, arith, cond, false, inl, inr, is_some, length, nat_le, nat_lt, not, refl, subst, sym, true}
use Rattle.scope_rules.proofs.Accepted.{or_left, or_right}
use Rattle.scope_log.specs.{AlreadyJoined, BeginClose, Bind, Cancel, Checked, ClockBack, Closed, EndClose, EndValue, Event, FORK_LOAD, Finish, Fork, Forking, GREATEST_NUMBER, Join, LEVEL_LIMIT, Label, Limits, Move, NamesNone}
use Rattle.scope_log.specs.{NoScope, NoTask, NotBound, NotJoined, NotOwner, NotReady, OPEN_LOAD, Open, Opening, Options, Policy, Refusal, RefusesAlike, Reject, Retirable, Retired, STEP_LOAD, Start, Structure, Tick, TooDeep}
use Rattle.scope_log.specs.{TooMany, Unbind, Words.closed, Words.closing, Words.innermost, Words.joined, Words.scopes, Words.stage, Words.tasks, WrongStage, actor_check, check_of, checks, forked_count, forking, in_closing}
use Rattle.scope_log.specs.{is_already, is_cancelled, is_innermost, is_let_go, is_running, is_waiting, known_actor, known_scope, known_task, left, load, names_let_go, opened_count, opening, option_map_or, over_load, over_scopes}
use Rattle.scope_log.specs.{over_tasks, owner_check, owns, owns_task, reading_check, refuse_closing, refuse_full, refuse_if, refuse_joined, retired, row_check, scope_check, stack, sum_by, task_check, task_joined, then_check}
use Rattle.scope_log.specs.{unretired, until_check, weight}
use Rattle.scope_log.proofs.Words.{innermost_unclosed, le-leb, leb-true, lt-ltb, ltb-true, stack_within, sum_by-append}
use Rattle.scope_log.proofs.Numbered.{forked_so_far, moved_forking, moved_opening, opened_so_far, same_forking, same_moment, same_opening, same_scopes, same_tasks, size}
use Rattle.scope_log.proofs.{Bound.same_bound_as_opened, Bound.same_holds_last, Cancelled.same_cancelled, Chained.still_some, Closing.same_closing, Named.home_named, Named.opened_new, Named.or_moved, Nested.same_innermost}
use Rattle.scope_log.proofs.{Nested.same_next_level, Past.IsScope, Past.IsTask, Past.fewer, Staged.same_ready, Staged.same_settled, Staged.same_stage, Standing.same_closed, Standing.same_joined, Standing.same_stack}

-- ---- rows

then_same : (c x y : Checked) → RefusesAlike x y → RefusesAlike (then_check c x) (then_check c y)
unfolding then_check
then_same (Ok done) x y rest = rest
then_same (Err e) x y rest = inl refl

then_full : (c d x y : Checked) → c ≡ Err TooMany → RefusesAlike (then_check c x) (then_check d y)
unfolding then_check
then_full c d x y full = inr (ap (λ z. then_check z x) full)

-- the first check alike, then the others
row : (c d : Checked) (cs ds : List Checked) → RefusesAlike c d → RefusesAlike (checks cs) (checks ds) → RefusesAlike (checks (c ∷ cs)) (checks (d ∷ ds))
unfolding checks
row c d cs ds first rest =
    elim first [
      | inl same ↦ subst (λ (x : Checked). RefusesAlike (then_check c (checks cs)) (then_check x (checks ds))) same (then_same c (checks cs) (checks ds) rest)
      | inr full ↦ then_full c d (checks cs) (checks ds) full
    ]

end_of_row : RefusesAlike (checks []) (checks [])
end_of_row = inl refl

full_alike : (b c : Bool) → (c ≡ true → b ≡ true) → RefusesAlike (refuse_if b TooMany) (refuse_if c TooMany)
full_alike true c less = inr refl
full_alike false true less = absurd (cc (less refl))
full_alike false false less = inl refl

if_alike : (b c : Bool) (x : Refusal) → b ≡ c → RefusesAlike (refuse_if b x) (refuse_if c x)
if_alike b c x same = inl (ap (λ t. refuse_if t x) same)

or_less : (a b c d : Bool) → (c ≡ true → a ≡ true) → (d ≡ true → b ≡ true) → (c || d) ≡ true → (a || b) ≡ true
or_less true b c d first second so = refl
or_less false b true d first second so = absurd (cc (first refl))
or_less false b false d first second so = second so

module _ (r : Retirable) (es : List Event) (L : Limits) where
  -- a base takes no more of the limits
  load_less : load (retired r es) ≤ load (unretired r es)
  unfolding load
  load_less =
      let both : sum_by weight (r.past.events ++ es) ≡ sum_by weight r.past.events + sum_by weight es = sum_by-append weight r.past.events es in
      let pairs : length (stack r.past 0) ≤ length r.past.base.binds + sum_by weight r.past.events = stack_within r.past in
      omega (arith, both, pairs)

  load_alike : (units : ℕ) → RefusesAlike (refuse_full L (unretired r es) units) (refuse_full L (retired r es) units)
  load_alike units =
      full_alike (over_load L (unretired r es) units) (over_load L (retired r es) units)
      (λ over. lt-ltb L.load (load (unretired r es) + units) (omega (arith, ltb-true L.load (load (retired r es) + units) over, load_less)))

  scopes_alike : RefusesAlike (refuse_if (over_scopes L (unretired r es)) TooMany) (refuse_if (over_scopes L (retired r es)) TooMany)
  scopes_alike =
      full_alike (over_scopes L (unretired r es)) (over_scopes L (retired r es))
      (or_less (nat_le L.scopes (opened_count (unretired r es))) (nat_le GREATEST_NUMBER (scopes (unretired r es))) (nat_le L.scopes (opened_count (retired r es))) (nat_le GREATEST_NUMBER (scopes (retired r es)))
      (λ over. le-leb L.scopes (opened_count (unretired r es)) (omega (arith, leb-true L.scopes (opened_count (retired r es)) over, opened_so_far r es)))
      (λ over. ap (nat_le GREATEST_NUMBER) (same_scopes r es) ∙ over))

  tasks_alike : RefusesAlike (refuse_if (over_tasks L (unretired r es)) TooMany) (refuse_if (over_tasks L (retired r es)) TooMany)
  tasks_alike =
      full_alike (over_tasks L (unretired r es)) (over_tasks L (retired r es))
      (or_less (nat_le L.tasks (forked_count (unretired r es))) (nat_le GREATEST_NUMBER (tasks (unretired r es))) (nat_le L.tasks (forked_count (retired r es))) (nat_le GREATEST_NUMBER (tasks (retired r es)))
      (λ over. le-leb L.tasks (forked_count (unretired r es)) (omega (arith, leb-true L.tasks (forked_count (retired r es)) over, forked_so_far r es)))
      (λ over. ap (nat_le GREATEST_NUMBER) (same_tasks r es) ∙ over))

module _ (r : Retirable) (es : List Event) where
  pub same_scope_check : (s : ℕ) → IsScope r s → scope_check (unretired r es) s ≡ scope_check (retired r es) s
  unfolding known_scope
  same_scope_check s new =
      let known : is_some (opening (unretired r es) s) ≡ is_some (opening (retired r es) s) = ap is_some (same_opening r es s new) ∙ still_some (moved_opening (size r)) (opening (retired r es) s) in
      ap (λ b. cond b (Err Retired) (refuse_if (not (is_some (opening (unretired r es) s))) NoScope)) (fewer r.past.base.scopes (scopes r.past) s (omega arith) new)
      ∙ (ap (λ b. refuse_if (not b) NoScope) known
      ∙ sym (ap (λ b. cond b (Err Retired) (refuse_if (not (is_some (opening (retired r es) s))) NoScope)) new))

  pub same_task_check : (k : ℕ) → IsTask r k → task_check (unretired r es) k ≡ task_check (retired r es) k
  unfolding known_task
  same_task_check k new =
      let known : is_some (forking (unretired r es) k) ≡ is_some (forking (retired r es) k) = ap is_some (same_forking r es k new) ∙ still_some (moved_forking (size r)) (forking (retired r es) k) in
      ap (λ b. cond b (Err Retired) (refuse_if (not (is_some (forking (unretired r es) k))) NoTask)) (fewer r.past.base.tasks (tasks r.past) k (omega arith) new)
      ∙ (ap (λ b. refuse_if (not b) NoTask) known
      ∙ sym (ap (λ b. cond b (Err Retired) (refuse_if (not (is_some (forking (retired r es) k))) NoTask)) new))

  pub same_owns : (a s : ℕ) → IsScope r s → owns (unretired r es) a s ≡ owns (retired r es) a s
  unfolding owns
  same_owns a s new =
      ap (λ o. option_map_or (λ (o : Opening). o.actor == a) o false) (same_opening r es s new)
      ∙ or_moved (moved_opening (size r)) (λ (o : Opening). o.actor == a) (λ (o : Opening). o.actor == a) false (opening (retired r es) s) (λ o is. refl)

  pub same_is_innermost : (a s : ℕ) → is_innermost (unretired r es) a s ≡ is_innermost (retired r es) a s
  unfolding is_innermost
  same_is_innermost a s = ap (λ o. option_map_or (λ t. t == s) o false) (same_innermost r es a)

module _ (r : Retirable) (es : List Event) (none : NamesNone r es) where
  pub same_actor_check : (a : ℕ) → IsTask r a → actor_check (unretired r es) a ≡ actor_check (retired r es) a
  unfolding known_actor
  same_actor_check a new =
      ap (λ c. cond (a == 0) (Ok tt) (checks (c ∷ refuse_if (not (is_running (stage (unretired r es) a))) WrongStage ∷ []))) (same_task_check r es a new)
      ∙ ap (λ x. cond (a == 0) (Ok tt) (checks (task_check (retired r es) a ∷ refuse_if (not (is_running x)) WrongStage ∷ []))) (same_stage r es none a new)

  closing_by : (a : ℕ) (o : Option ℕ) → innermost (retired r es) a ≡ o → option_map_or (closing (unretired r es)) o false ≡ option_map_or (closing (retired r es)) o false
  closing_by a None is = refl
  closing_by a (Some s) is = let it = innermost_unclosed (retired r es) a s is in same_closing r es none s (opened_new r es s it.opened it.is)

  pub same_in_closing : (a : ℕ) → in_closing (unretired r es) a ≡ in_closing (retired r es) a
  unfolding in_closing
  same_in_closing a = ap (λ o. option_map_or (closing (unretired r es)) o false) (same_innermost r es a) ∙ closing_by a (innermost (retired r es) a) refl

  pub same_until_check : (s : ℕ) → IsScope r s → until_check (unretired r es) s ≡ until_check (retired r es) s
  unfolding until_check
  same_until_check s new =
      ap (λ c. checks (c ∷ refuse_if (closed (unretired r es) s) Closed ∷ [])) (same_scope_check r es s new)
      ∙ ap (λ b. checks (scope_check (retired r es) s ∷ refuse_if b Closed ∷ [])) (same_closed r es s new)

  same_owns_task : (a k : ℕ) → IsTask r k → owns_task (unretired r es) a k ≡ owns_task (retired r es) a k
  same_owns_task a k new =
      ap (λ o. option_map_or (λ (f : Forking). owns (unretired r es) a f.scope) o false) (same_forking r es k new)
      ∙ or_moved (moved_forking (size r)) (λ (f : Forking). owns (unretired r es) a f.scope) (λ (f : Forking). owns (retired r es) a f.scope) false (forking (retired r es) k)
      (λ f is. same_owns r es a f.scope (home_named r es none k f is))

  same_task_joined : (k : ℕ) → IsTask r k → task_joined (unretired r es) k ≡ task_joined (retired r es) k
  same_task_joined k new =
      ap (λ o. option_map_or (λ (f : Forking). joined (unretired r es) f.scope) o false) (same_forking r es k new)
      ∙ or_moved (moved_forking (size r)) (λ (f : Forking). joined (unretired r es) f.scope) (λ (f : Forking). joined (retired r es) f.scope) false (forking (retired r es) k)
      (λ f is. same_joined r es f.scope (home_named r es none k f is))

  pub same_reading_check : (a k : ℕ) → IsTask r a → IsTask r k → reading_check (unretired r es) a k ≡ reading_check (retired r es) a k
  unfolding reading_check
  same_reading_check a k actor new =
      ap (λ c. checks (c ∷ task_check (unretired r es) k ∷ refuse_if (not (owns_task (unretired r es) a k)) NotOwner ∷ refuse_if (not (task_joined (unretired r es) k)) NotJoined ∷ [])) (same_actor_check a actor)
      ∙ (ap (λ c. checks (actor_check (retired r es) a ∷ c ∷ refuse_if (not (owns_task (unretired r es) a k)) NotOwner ∷ refuse_if (not (task_joined (unretired r es) k)) NotJoined ∷ [])) (same_task_check r es k new)
      ∙ (ap (λ b. checks (actor_check (retired r es) a ∷ task_check (retired r es) k ∷ refuse_if (not b) NotOwner ∷ refuse_if (not (task_joined (unretired r es) k)) NotJoined ∷ [])) (same_owns_task a k new)
      ∙ ap (λ b. checks (actor_check (retired r es) a ∷ task_check (retired r es) k ∷ refuse_if (not (owns_task (retired r es) a k)) NotOwner ∷ refuse_if (not b) NotJoined ∷ [])) (same_task_joined k new)))

  -- ---- the rows of the table

  acts : (a : ℕ) → IsTask r a → RefusesAlike (actor_check (unretired r es) a) (actor_check (retired r es) a)
  acts a new = inl (same_actor_check a new)

  known : (s : ℕ) → IsScope r s → RefusesAlike (scope_check (unretired r es) s) (scope_check (retired r es) s)
  known s new = inl (same_scope_check r es s new)

  given : (k : ℕ) → IsTask r k → RefusesAlike (task_check (unretired r es) k) (task_check (retired r es) k)
  given k new = inl (same_task_check r es k new)

  owned : (a s : ℕ) → IsScope r s → RefusesAlike (owner_check (unretired r es) a s) (owner_check (retired r es) a s)
  owned a s new = if_alike (not (owns (unretired r es) a s)) (not (owns (retired r es) a s)) NotOwner (ap not (same_owns r es a s new))

  unclosing : (s : ℕ) → IsScope r s → RefusesAlike (refuse_closing (unretired r es) s) (refuse_closing (retired r es) s)
  unclosing s new = if_alike (closing (unretired r es) s) (closing (retired r es) s) Closed (same_closing r es none s new)

  unjoined : (s : ℕ) → IsScope r s → RefusesAlike (refuse_joined (unretired r es) s) (refuse_joined (retired r es) s)
  unjoined s new = inl (ap (λ b. refuse_if b AlreadyJoined) (same_joined r es s new))

  waits : (k : ℕ) → IsTask r k → RefusesAlike (refuse_if (not (is_waiting (stage (unretired r es) k))) WrongStage) (refuse_if (not (is_waiting (stage (retired r es) k))) WrongStage)
  waits k new = inl (ap (λ x. refuse_if (not (is_waiting x)) WrongStage) (same_stage r es none k new))

  runs : (k : ℕ) → IsTask r k → RefusesAlike (refuse_if (not (is_running (stage (unretired r es) k))) WrongStage) (refuse_if (not (is_running (stage (retired r es) k))) WrongStage)
  runs k new = inl (ap (λ x. refuse_if (not (is_running x)) WrongStage) (same_stage r es none k new))

  unless : (b : Bool) (c d : Checked) → RefusesAlike c d → RefusesAlike (cond b (Ok tt) c) (cond b (Ok tt) d)
  unless true c d alike = inl refl
  unless false c d alike = alike

  cancels : (L : Limits) (s : ℕ) → IsScope r s → RefusesAlike (cond (is_cancelled (unretired r es) s) (Ok tt) (refuse_full L (unretired r es) STEP_LOAD)) (cond (is_cancelled (retired r es) s) (Ok tt) (refuse_full L (retired r es) STEP_LOAD))
  cancels L s new =
      let alike = unless (is_cancelled (retired r es) s) (refuse_full L (unretired r es) STEP_LOAD) (refuse_full L (retired r es) STEP_LOAD) (load_alike r es L STEP_LOAD) in
      rw (same_cancelled r es none s new) alike

  -- the row of the event is refused alike
  abbrev AlikeRow : Limits → Event → Type 0
  AlikeRow L e = RefusesAlike (check_of L (unretired r es) e) (check_of L (retired r es) e)

  open_row : (L : Limits) (actor : ℕ) (policy : Policy) (options : Options) → IsTask r actor → AlikeRow L (Open actor policy options)
  unfolding row_check
  open_row L actor policy options new =
      row _ _ _ _ (acts actor new)
      (row _ _ _ _ (inl (ap (λ b. refuse_if b Closed) (same_in_closing actor)))
      (row _ _ _ _ (inl (ap (λ n. refuse_if (nat_lt LEVEL_LIMIT n) TooDeep) (same_next_level r es none actor new)))
      (row _ _ _ _ (scopes_alike r es L) (row _ _ _ _ (load_alike r es L OPEN_LOAD) end_of_row))))

  fork_row : (L : Limits) (actor scope : ℕ) (label : Label) → IsTask r actor → IsScope r scope → AlikeRow L (Fork actor scope label)
  unfolding row_check
  fork_row L actor scope label a s =
      row _ _ _ _ (acts actor a)
      (row _ _ _ _ (known scope s)
      (row _ _ _ _ (owned actor scope s)
      (row _ _ _ _ (unclosing scope s)
      (row _ _ _ _ (unjoined scope s)
      (row _ _ _ _ (inl (ap (λ b. refuse_if (not b) Structure) (same_bound_as_opened r es actor scope a s)))
      (row _ _ _ _ (tasks_alike r es L) (row _ _ _ _ (load_alike r es L FORK_LOAD) end_of_row)))))))

  finish_row : (L : Limits) (task : ℕ) (end : EndValue) → IsTask r task → AlikeRow L (Finish task end)
  unfolding row_check
  finish_row L task end new =
      row _ _ _ _ (given task new) (row _ _ _ _ (runs task new) (row _ _ _ _ (inl (ap (λ o. refuse_if (is_some o) Structure) (same_innermost r es task))) end_of_row))

  unbind_row : (L : Limits) (actor : ℕ) → IsTask r actor → AlikeRow L (Unbind actor)
  unfolding row_check
  unbind_row L actor new =
      row _ _ _ _ (acts actor new)
      (row _ _ _ _ (inl (ap (λ bs. refuse_if (length bs == 0) NotBound) (same_stack r es actor new)))
      (row _ _ _ _ (inl (ap (λ b. refuse_if b Structure) (same_holds_last r es actor new))) (row _ _ _ _ (load_alike r es L STEP_LOAD) end_of_row)))

  join_row : (L : Limits) (actor scope : ℕ) → IsTask r actor → IsScope r scope → AlikeRow L (Join actor scope)
  unfolding row_check
  join_row L actor scope a s =
      row _ _ _ _ (acts actor a)
      (row _ _ _ _ (known scope s)
      (row _ _ _ _ (owned actor scope s)
      (row _ _ _ _ (unclosing scope s)
      (row _ _ _ _ (unjoined scope s) (row _ _ _ _ (inl (ap (λ b. refuse_if (not b) NotReady) (same_ready r es none scope s))) end_of_row)))))

  begin_row : (L : Limits) (actor scope : ℕ) → IsTask r actor → IsScope r scope → AlikeRow L (BeginClose actor scope)
  unfolding row_check
  begin_row L actor scope a s = row _ _ _ _ (acts actor a) (row _ _ _ _ (known scope s) (row _ _ _ _ (owned actor scope s) end_of_row))

  end_row : (L : Limits) (actor scope : ℕ) → IsTask r actor → IsScope r scope → AlikeRow L (EndClose actor scope)
  unfolding row_check
  end_row L actor scope a s =
      row _ _ _ _ (acts actor a)
      (row _ _ _ _ (known scope s)
      (row _ _ _ _ (owned actor scope s)
      (row _ _ _ _ (inl (ap (λ b. refuse_if (not b) WrongStage) (same_closing r es none scope s)))
      (row _ _ _ _ (inl (ap (λ b. refuse_if b Closed) (same_closed r es scope s)))
      (row _ _ _ _ (inl (ap (λ b. refuse_if (not b) Structure) (same_is_innermost r es actor scope)))
      (row _ _ _ _ (inl (ap (λ b. refuse_if (not b) NotReady) (same_settled r es none scope s))) end_of_row))))))

  -- the actor and the scope that an event names
  both_named : (actor scope : ℕ) → (is_let_go (tasks r.past) actor || is_let_go (scopes r.past) scope) ≡ false → IsTask r actor × IsScope r scope
  both_named actor scope new = (or_left (is_let_go (tasks r.past) actor) (is_let_go (scopes r.past) scope) new, or_right (is_let_go (tasks r.past) actor) (is_let_go (scopes r.past) scope) new)

  pub same_check : (L : Limits) (e : Event) → names_let_go (left r) e ≡ false → AlikeRow L e
  unfolding row_check
  same_check L (Open actor policy options) new = open_row L actor policy options new
  same_check L (Fork actor scope label) new = let it = both_named actor scope new in fork_row L actor scope label it.0 it.1
  same_check L (Reject task) new = row _ _ _ _ (given task new) (row _ _ _ _ (waits task new) end_of_row)
  same_check L (Start task) new = row _ _ _ _ (given task new) (row _ _ _ _ (waits task new) end_of_row)
  same_check L (Finish task end) new = finish_row L task end new
  same_check L (Cancel scope) new = row _ _ _ _ (known scope new) (row _ _ _ _ (unclosing scope new) (row _ _ _ _ (cancels L scope new) end_of_row))
  same_check L (Move scope deadline) new =
      row _ _ _ _ (known scope new) (row _ _ _ _ (unclosing scope new) (row _ _ _ _ (unjoined scope new) (row _ _ _ _ (load_alike r es L STEP_LOAD) end_of_row)))
  same_check L (Tick now) new = row _ _ _ _ (inl (ap (λ n. refuse_if (nat_lt now n) ClockBack) (same_moment r es))) (row _ _ _ _ (load_alike r es L STEP_LOAD) end_of_row)
  same_check L (Bind actor pair) new = row _ _ _ _ (acts actor new) (row _ _ _ _ (load_alike r es L STEP_LOAD) end_of_row)
  same_check L (Unbind actor) new = unbind_row L actor new
  same_check L (Join actor scope) new = let it = both_named actor scope new in join_row L actor scope it.0 it.1
  same_check L (BeginClose actor scope) new = let it = both_named actor scope new in begin_row L actor scope it.0 it.1
  same_check L (EndClose actor scope) new = let it = both_named actor scope new in end_row L actor scope it.0 it.1

  pub same_already : (e : Event) → names_let_go (left r) e ≡ false → is_already (unretired r es) e ≡ is_already (retired r es) e
  same_already (Cancel scope) new = same_cancelled r es none scope new
  same_already (BeginClose actor scope) new = same_closing r es none scope (or_right (is_let_go (tasks r.past) actor) (is_let_go (scopes r.past) scope) new)
  same_already _ new = refl

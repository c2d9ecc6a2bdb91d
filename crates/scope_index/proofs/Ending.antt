-- What is kept before and after the end of a task.
use Rattle.std.proofs.Common.{[], ℕ, ◌++◌, ◌+◌, ◌-◌, ◌<◌, ◌==◌, ◌∙◌, ◌∷◌, ◌≡◌, ◌≤◌, Bool, List, None, Option, Some, ap, arith, cond, eqb, false, length, length-append, refl, slice_get, subst, suc, sym, true, zero}
use Rattle.scope_index.specs.{Accepts, AreCancelsOf, CancelTable, Completion, EndValue, Finish, Forking, HasCounted, HasRoom, HasRoomForEnds, HasRow, History, IfSome, IndexTable, IndexTables.forks_in, IsAccountOf, IsCompleted}
use Rattle.scope_index.specs.{IsIndexOf, IsLatest, IsReadyAt, Joiner, JoinerStanding, Legal, Limits, Opening, StandsFor, TASK_LIMIT, Totals, account_at, cancelled, completion_of, completions, cons_option, counts_of, fires}
use Rattle.scope_index.specs.{followed, forking, forks_of, is_task_of, opening, option_map_or, scope_of, totals_of}
use Rattle.scope_index.proofs.Words.{can_finish, completions_grow, count_same, counts_are, eq-eqb, eqb-false, eqb-true, finish_passed, forked_opened, forking_stays, running_forked, scope_of_is, some_same, tallies_of}
use Rattle.scope_index.proofs.{Balance.MayComplete, Balance.may_complete, CancelReadings.has_row, FinishSteps.finished_next, Wanted.latest}

-- a task of scope s may end
pub record EndsIn (h : History) (t : IndexTable) (k s : ℕ) : Type 0 where
  pub forked : Forking
  pub is : forking h k ≡ Some forked
  pub same : s ≡ forked.scope
  pub row : HasRow t.cancels s
  pub may : MayComplete h s

pub ends_in : (L : Limits) (h : History) (t : IndexTable) (k : ℕ) (end : EndValue) (s : ℕ) → Legal L h → Accepts L h (Finish k end) → IsIndexOf h t → s ≡ scope_of t.rows k → EndsIn h t k s
ends_in L h t k end s legal ok kept of =
    let it = running_forked h k (finish_passed L h k end ok).runs in
    let can = can_finish L h t.rows k end legal ok kept.rows in
    let same : s ≡ it.forked.scope = of ∙ scope_of_is h t.rows k it.forked kept.rows it.is in
    let n = (tallies_of h (scope_of t.rows k) (counts_of t.rows (scope_of t.rows k)) (counts_are h t.rows (scope_of t.rows k) kept.rows can.scope)).running in
    let may = may_complete L h (scope_of t.rows k) legal (omega (arith, n, can.runs)) in
    record {
      forked = it.forked;
      is = it.is;
      same = same;
      row = subst (HasRow t.cancels) (sym same) (has_row h t.cancels it.forked.scope kept.cancels (forked_opened L h k it.forked legal it.is));
      may = subst (MayComplete h) (sym of) may;
    }

-- the account of a scope that has a row
pub record AccountHere (h : History) (t : CancelTable) (s : ℕ) (a : JoinerStanding) : Type 0 where
  pub opened : Opening
  pub is : opening h s ≡ Some opened
  pub policy : a.policy ≡ opened.policy
  pub stands : StandsFor a (completions h s)
  pub room : a.has_closure ≡ true → forks_of h s ≤ length a.seen + a.room

pub account_here : (h : History) (t : CancelTable) (s : ℕ) (a : JoinerStanding) → AreCancelsOf h t → HasRoomForEnds h t → HasRow t s → account_at t s ≡ Some a → AccountHere h t s a
account_here h t s a cancels room has at =
    let number : t.before + 1 + (s - t.before - 1) ≡ s = omega (arith, has.after) in
    let it = subst (λ n. IsAccountOf h n a) number (cancels.accounts (s - t.before - 1) a at) in
    record {
      opened = it.opened;
      is = it.is;
      policy = it.policy;
      stands = it.stands;
      room = λ listed. subst (λ n. forks_of h n ≤ length a.seen + a.room) number (room (s - t.before - 1) a at listed);
    }

counted_length : (list : List Completion) → (totals_of list).completions ≡ length list
unfolding totals_of
counted_length list = refl

-- there is room for one completion more
pub room_for_end : (h : History) (t : IndexTable) (k s : ℕ) → IsIndexOf h t → EndsIn h t k s → IfSome (account_at t.cancels s) (λ a. HasRoom a 1)
room_for_end h t k s kept ends = by (account_at t.cancels s) refl
  where
    by : (o : Option JoinerStanding) → account_at t.cancels s ≡ o → IfSome o (λ a. HasRoom a 1)
    by None is = tt
    by (Some a) is = λ listed.
        let it = account_here h t.cancels s a kept.cancels kept.room ends.row is in
        let seen = ap length (it.stands.seen listed) in
        omega (arith, it.room listed, seen, ends.may.forked)

-- and few have completed
pub few_ended : (h : History) (t : IndexTable) (k s : ℕ) → IsIndexOf h t → EndsIn h t k s → IfSome (account_at t.cancels s) (λ a. a.totals.completions < TASK_LIMIT)
few_ended h t k s kept ends = by (account_at t.cancels s) refl
  where
    by : (o : Option JoinerStanding) → account_at t.cancels s ≡ o → IfSome o (λ a. a.totals.completions < TASK_LIMIT)
    by None is = tt
    by (Some a) is =
        let it = account_here h t.cancels s a kept.cancels kept.room ends.row is in
        let count : a.totals.completions ≡ length (completions h s) = ap (λ (x : Totals). x.completions) (sym it.stands.totals) ∙ counted_length (completions h s) in
        omega (arith, count, ends.may.few)

-- what the end of task k in scope s wants
pub record MayEnd (t : IndexTable) (k s place : ℕ) : Type 0 where
  pub row : HasRow t.cancels s
  pub room : IfSome (account_at t.cancels s) (λ a. HasRoom a 1)
  pub few : IfSome (account_at t.cancels s) (λ a. a.totals.completions < TASK_LIMIT)
  pub latest : IsLatest t.cancels.nodes place

pub may_end : (t now : IndexTable) (k : ℕ) (end : EndValue) (s place : ℕ) → t ≡ now → IsReadyAt now (Finish k end) place → s ≡ scope_of now.rows k → MayEnd t k s place
may_end t now k end s place is given of =
    let all = subst (λ x. IsReadyAt x (Finish k end) place) (sym is) given in
    let ready = all.0 in
    let ends = ends_in ready.limits ready.history t k end s ready.legal ready.accepted ready.kept (of ∙ ap (λ (x : IndexTable). scope_of x.rows k) (sym is)) in
    record {
      row = ends.row;
      room = room_for_end ready.history t k s ready.kept ends;
      few = few_ended ready.history t k s ready.kept ends;
      latest = latest t (Finish k end) place all;
    }

-- ---- after the end

-- the completions of the task's scope
completed_then : (L : Limits) (h : History) (k : ℕ) (end : EndValue) (f : Forking) → Legal L h → forking h k ≡ Some f → completions (followed h (Finish k end)) f.scope ≡ completions h f.scope ++ record { task = k; end = end } ∷ []
unfolding is_task_of
completed_then L h k end f legal is =
    let e = Finish k end in
    let here : is_task_of (followed h e) f.scope k ≡ true = ap (λ (o : Option Forking). option_map_or (λ (x : Forking). x.scope == f.scope) o false) (forking_stays h e k f is) ∙ eq-eqb f.scope f.scope refl in
    let one : completion_of (followed h e) f.scope e ≡ Some (record { task = k; end = end }) = ap (λ b. cond b (Some (record { task = k; end = end })) None) here in
    completions_grow L h e f.scope legal ∙ ap (λ o. completions h f.scope ++ cons_option o []) one

first_of : {A : Type 0} (xs : List A) (i : ℕ) → i < length xs → (x : A) × (slice_get xs i ≡ Some x)
first_of [] i within = absurd (omega arith)
first_of (x ∷ xs) zero within = (x, refl)
first_of (x ∷ xs) (suc i) within = first_of xs i (omega arith)

-- the cancels are those of the history with the end
pub cancels_ended : (L : Limits) (h : History) (k : ℕ) (end : EndValue) (s place : ℕ) (old : IndexTable) (new : CancelTable) → Legal L h → IsIndexOf h old → EndsIn h old k s → place ≡ length h.events
    → IsCompleted old.cancels new s (record { task = k; end = end }) place → AreCancelsOf (followed h (Finish k end)) new
cancels_ended L h k end s place old new legal kept ends at done =
    let d : Completion = record { task = k; end = end } in
    let a = first_of old.cancels.accounts (s - old.cancels.before - 1) (omega (arith, ends.row.after, ends.row.within, kept.cancels.count, kept.cancels.counted)) in
    let it = account_here h old.cancels s a.0 kept.cancels kept.room ends.row a.1 in
    let fired : done.fired ≡ fires it.opened.policy (completions h s ++ d ∷ []) = done.fires a.0 (completions h s) a.1 it.stands ∙ ap (λ p. fires p (completions h s ++ d ∷ [])) it.policy in
    let all : completions (followed h (Finish k end)) ends.forked.scope ≡ completions h s ++ d ∷ [] = completed_then L h k end ends.forked legal ends.is ∙ ap (λ n. completions h n ++ d ∷ []) (sym ends.same) in
    let opened : opening h ends.forked.scope ≡ Some it.opened = ap (opening h) (sym ends.same) ∙ it.is in
    finished_next L h k end ends.forked old.cancels done.counted_one new done.fired legal kept.cancels ends.is (subst (HasRow old.cancels) ends.same ends.row)
    (subst (λ n. HasCounted old.cancels done.counted_one n d) ends.same done.counted)
    (λ o is. fired ∙ (ap (λ p. fires p (completions h s ++ d ∷ [])) (ap (λ (x : Opening). x.policy) (some_same _ _ (sym opened ∙ is))) ∙ ap (fires o.policy) (sym all)))
    (done.is ∙ (ap (λ n. cond done.fired (cancelled done.counted_one n Joiner place) done.counted_one) ends.same ∙ ap (λ p. cond done.fired (cancelled done.counted_one ends.forked.scope Joiner p) done.counted_one) at))

same_accounts : (b : Bool) (mid : CancelTable) (s place : ℕ) → (cond b (cancelled mid s Joiner place) mid).accounts ≡ mid.accounts
same_accounts true mid s place = refl
same_accounts false mid s place = refl

-- and there is room for the ends to come
pub room_ended : (h : History) (k : ℕ) (end : EndValue) (s place : ℕ) (old new : CancelTable) → HasRoomForEnds h old → new.before ≡ old.before → IsCompleted old new s (record { task = k; end = end }) place → HasRoomForEnds (followed h (Finish k end)) new
room_ended h k end s place old new room before done i a at listed =
    let mid = done.counted_one in
    let there : slice_get mid.accounts i ≡ Some a = sym (ap (λ xs. slice_get xs i) (ap (λ (t : CancelTable). t.accounts) done.is ∙ same_accounts done.fired mid s place)) ∙ at in
    subst (λ b. forks_of (followed h (Finish k end)) (b + 1 + i) ≤ length a.seen + a.room) (sym before)
    (by there (eqb i (s - old.before - 1)) refl)
  where
    by : slice_get done.counted_one.accounts i ≡ Some a → (b : Bool) → eqb i (s - old.before - 1) ≡ b → forks_of (followed h (Finish k end)) (old.before + 1 + i) ≤ length a.seen + a.room
    by there true is =
        let here : i ≡ s - old.before - 1 = eqb-true i (s - old.before - 1) is in
        let from = done.counted.here a (sym (ap (slice_get done.counted_one.accounts) here) ∙ there) in
        let had = sym from.1.1.joiner.has_closure ∙ listed in
        let was = room i from.0 (ap (slice_get old.accounts) here ∙ from.1.0) had in
        let seen = ap length (from.1.1.seen had) ∙ length-append from.0.seen (record { task = k; end = end } ∷ []) in
        omega (arith, was, seen, from.1.1.room, count_same (forks_in (old.before + 1 + i)) h (Finish k end) refl)
    by there false is =
        let apart = eqb-false i (s - old.before - 1) is in
        let was = room i a (sym (done.counted.others i apart) ∙ there) listed in
        omega (arith, was, count_same (forks_in (old.before + 1 + i)) h (Finish k end) refl)

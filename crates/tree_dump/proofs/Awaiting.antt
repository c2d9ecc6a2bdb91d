-- Which tasks of a scope wait or run, and whether any does.
use Rattle.std.proofs.Common.{[], ℕ, ◌&&◌, ◌++◌, ◌+◌, ◌==◌, ◌||◌, ◌∙◌, ◌∷◌, ◌≡◌, Bool, List, Some, ap, append-nil, arith, cond, count_by, false, nat_lt, not, refl, suc, sym, true, zero}
use Rattle.tree_dump.specs.{Clock, Finished, History, Never, Running, ScopeInfo, Stage, Waiting, awaited_if, awaited_lines, awaited_scope, awaited_task, closed, counts, filter, flat_map, info, is_settled, is_task_of, is_unsettled, list_any, option_map_or, settled, stage, task_line}
use Rattle.tree_dump.specs.{task_numbers, tasks_of, waits}
use Rattle.tree_dump.proofs.Lemmas.{count_by-cons, lt-ltb, ne_eqb}
use Rattle.tree_dump.proofs.{Awaits.waits_or_runs, Walked.info_scope}

-- ---- the tasks of one scope

waits_is : (x : Stage) → waits x ≡ not (is_settled x)
waits_is Never = refl
waits_is Waiting = refl
waits_is Running = refl
waits_is Finished = refl

tasks_are : (c : Clock) (h : History) (s : ℕ) (ks : List ℕ) → flat_map (awaited_task c h) (filter (is_task_of h s) ks) ≡ flat_map (task_line c h 1) (filter (is_unsettled h s) ks)
unfolding awaited_task
tasks_are c h s [] = refl
tasks_are c h s (k ∷ ks) = by (is_task_of h s k) (tasks_are c h s ks)
  where
    listed : List ℕ
    listed = filter (is_task_of h s) ks

    shown : List ℕ
    shown = filter (is_unsettled h s) ks

    one : (b : Bool) (rest : List ℕ) → rest ≡ flat_map (task_line c h 1) shown → cond b (task_line c h 1 k) [] ++ rest ≡ flat_map (task_line c h 1) (cond b (k ∷ shown) shown)
    one true rest same = ap (λ l. task_line c h 1 k ++ l) same
    one false rest same = same

    by : (b : Bool) → flat_map (awaited_task c h) listed ≡ flat_map (task_line c h 1) shown →
        flat_map (awaited_task c h) (cond b (k ∷ listed) listed) ≡ flat_map (task_line c h 1) (cond (b && not (is_settled (stage h k))) (k ∷ shown) shown)
    by false same = same
    by true same =
        ap (λ b. cond b (task_line c h 1 k) [] ++ flat_map (awaited_task c h) listed) (waits_is (stage h k))
        ∙ one (not (is_settled (stage h k))) (flat_map (awaited_task c h) listed) same

pub tasks_awaited : (c : Clock) (h : History) (s : ℕ) → flat_map (awaited_task c h) (tasks_of h s) ≡ flat_map (task_line c h 1) (filter (is_unsettled h s) (task_numbers h))
unfolding tasks_of
tasks_awaited c h s = tasks_are c h s (task_numbers h)

-- ---- whether a scope is shown

some_counted : (p : ℕ → Bool) (ks : List ℕ) → nat_lt 0 (count_by p ks) ≡ list_any p ks
some_counted p [] = refl
some_counted p (k ∷ ks) = ap (nat_lt 0) (count_by-cons p k ks) ∙ by (p k) (some_counted p ks)
  where
    by : (b : Bool) → nat_lt 0 (count_by p ks) ≡ list_any p ks → nat_lt 0 (cond b 1 0 + count_by p ks) ≡ (b || list_any p ks)
    by true same = lt-ltb 0 (1 + count_by p ks) (omega arith)
    by false same = ap (nat_lt 0) (omega arith) ∙ same

both_none : (m n : ℕ) → not (nat_lt 0 (m + n)) ≡ ((m == 0) && (n == 0))
both_none zero zero = refl
both_none zero (suc n) = ap not (lt-ltb 0 (0 + suc n) (omega arith)) ∙ sym (ne_eqb (suc n) 0 (λ same. absurd (omega (arith, same))))
both_none (suc m) n = ap not (lt-ltb 0 (suc m + n) (omega arith)) ∙ sym (ap (λ b. b && (n == 0)) (ne_eqb (suc m) 0 (λ same. absurd (omega (arith, same)))))

pub settled_is : (h : History) (s : ℕ) → settled h s ≡ (((counts h s).waiting == 0) && ((counts h s).running == 0))
unfolding settled
settled_is h s =
    ap not (sym (some_counted (is_unsettled h s) (task_numbers h)))
    ∙ (ap (λ n. not (nat_lt 0 n)) (sym (waits_or_runs h s)) ∙ both_none (counts h s).waiting (counts h s).running)

-- ---- one scope

pub not_awaiting : (c : Clock) (h : History) (s t : ℕ) (text : List ℕ) → t ≡ s → settled h t ≡ true → text ≡ text ++ awaited_if c h s
not_awaiting c h s t text same is = by (closed h s) (settled h s) (ap (settled h) (sym same) ∙ is)
  where
    by : (b d : Bool) → d ≡ true → text ≡ text ++ cond (not b && not d) (awaited_scope c h s) []
    by true d is = sym (append-nil text)
    by false true is = sym (append-nil text)
    by false false is = absurd cc

pub awaiting : (c : Clock) (h : History) (s : ℕ) (i : ScopeInfo) → info h s ≡ Some i → closed h s ≡ false → settled h i.scope ≡ false → awaited_if c h s ≡ awaited_lines c h i
unfolding awaited_scope
awaiting c h s i is live some =
    ap (λ b. cond (not b && not (settled h s)) (awaited_scope c h s) []) live
    ∙ (ap (λ b. cond (not b) (awaited_scope c h s) []) (ap (settled h) (sym (info_scope h s i is)) ∙ some)
    ∙ ap (λ o. option_map_or (awaited_lines c h) o []) is)

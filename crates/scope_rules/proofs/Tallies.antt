-- Whether a scope has tasks, and whether it is settled, by how many tasks are at each stage.
use Rattle.std.proofs.Common.{[], ℕ, ◌&&◌, ◌+◌, ◌||◌, ◌∙◌, ◌∷◌, ◌≡◌, Bool, List, ap, arith, cond, count_by, false, nat_lt, not, refl, sym, true}
use Rattle.scope_rules.specs.{Finished, History.History, Running, Stage, Tasks.counts, Tasks.settled, Waiting, declared.types.answers.Stage.TheVariants.Never, has_tasks, is_at, is_settled, is_stage, is_task_of, is_unsettled}
use Rattle.scope_rules.specs.{list_any, stage, task_numbers}
use Rattle.scope_rules.proofs.Words.{lt-ltb}
use Rattle.scope_rules.proofs.Completions.{count_by-cons}

any_step : (b : Bool) (m : ℕ) (rest : Bool) → rest ≡ nat_lt 0 m → (b || rest) ≡ nat_lt 0 (cond b 1 0 + m)
any_step true m rest so = sym (lt-ltb 0 (1 + m) (omega arith))
any_step false m rest so = let same : 0 + m ≡ m = omega arith in rw same so

-- the test holds of some, if more than none are counted
pub any_counted : (p : ℕ → Bool) (ns : List ℕ) → list_any p ns ≡ nat_lt 0 (count_by p ns)
any_counted p [] = refl
any_counted p (n ∷ ns) = any_step (p n) (count_by p ns) (list_any p ns) (any_counted p ns) ∙ ap (nat_lt 0) (sym (count_by-cons p n ns))

-- what is counted by one test is counted by two, if just one of them holds
counted_apart : (p q r : ℕ → Bool) (ns : List ℕ) → ((n : ℕ) → cond {A = ℕ} (p n) 1 0 ≡ cond {A = ℕ} (q n) 1 0 + cond {A = ℕ} (r n) 1 0) → count_by p ns ≡ count_by q ns + count_by r ns
counted_apart p q r [] same = refl
counted_apart p q r (n ∷ ns) same =
    let one = count_by-cons p n ns in
    let two = count_by-cons q n ns in
    let three = count_by-cons r n ns in
    omega (arith, one, two, three, same n, counted_apart p q r ns same)

unsettled_unit : (b : Bool) (x : Stage) → cond {A = ℕ} (b && not (is_settled x)) 1 0 ≡ cond {A = ℕ} (b && is_stage Waiting x) 1 0 + cond {A = ℕ} (b && is_stage Running x) 1 0
unsettled_unit false x = refl
unsettled_unit true Never = refl
unsettled_unit true Waiting = refl
unsettled_unit true Running = refl
unsettled_unit true Finished = refl

-- a scope is settled where none of its tasks waits or runs
pub settled_by_counts : (h : History) (s : ℕ) → settled h s ≡ not (nat_lt 0 ((counts h s).waiting + (counts h s).running))
unfolding settled counts
settled_by_counts h s =
    ap not (any_counted (is_unsettled h s) (task_numbers h)
    ∙ ap (nat_lt 0) (counted_apart (is_unsettled h s) (is_at h s Waiting) (is_at h s Running) (task_numbers h) (λ k. unsettled_unit (is_task_of h s k) (stage h k))))

ended_unit : (b : Bool) (x : Stage) → cond {A = ℕ} (b && is_settled x) 1 0 ≡ cond {A = ℕ} (b && is_stage Never x) 1 0 + cond {A = ℕ} (b && is_stage Finished x) 1 0
ended_unit false x = refl
ended_unit true Never = refl
ended_unit true Waiting = refl
ended_unit true Running = refl
ended_unit true Finished = refl

either_unit : (b c : Bool) → cond {A = ℕ} b 1 0 ≡ cond {A = ℕ} (b && c) 1 0 + cond {A = ℕ} (b && not c) 1 0
either_unit false c = refl
either_unit true true = refl
either_unit true false = refl

-- a scope has tasks if some are at a stage
pub tasks_by_counts : (h : History) (s : ℕ) → has_tasks h s ≡ nat_lt 0 (((counts h s).never + (counts h s).finished) + ((counts h s).waiting + (counts h s).running))
unfolding has_tasks counts
tasks_by_counts h s =
    let is_done : ℕ → Bool = λ k. is_task_of h s k && is_settled (stage h k) in
    let all = counted_apart (is_task_of h s) is_done (is_unsettled h s) (task_numbers h) (λ k. either_unit (is_task_of h s k) (is_settled (stage h k))) in
    let done = counted_apart is_done (is_at h s Never) (is_at h s Finished) (task_numbers h) (λ k. ended_unit (is_task_of h s k) (stage h k)) in
    let rest = counted_apart (is_unsettled h s) (is_at h s Waiting) (is_at h s Running) (task_numbers h) (λ k. unsettled_unit (is_task_of h s k) (stage h k)) in
    any_counted (is_task_of h s) (task_numbers h) ∙ ap (nat_lt 0) (omega (arith, all, done, rest))

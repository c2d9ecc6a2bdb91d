-- That a scope's line counts the tasks that wait or run, and all tasks.
use Rattle.std.proofs.Common.{[], ℕ, ◌&&◌, ◌++◌, ◌+◌, ◌∙◌, ◌∷◌, ◌≡◌, Bool, List, ap, arith, codes, cond, count_by, false, length, not, refl, sym, true}
use Rattle.tree_dump.specs.{Finished, History, Never, Running, Stage, TreeAwaits, Waiting, counts, decimal, is_at, is_settled, is_stage, is_task_of, is_unsettled, stage, task_numbers, tasks_of}
use Rattle.tree_dump.proofs.Lemmas.{count_by-cons, length-filter}

unit : Bool → ℕ
unit b = cond b 1 0

-- what is counted by one test is counted by two, if just one of them holds
apart : (p q r : ℕ → Bool) (ns : List ℕ) → ((n : ℕ) → unit (p n) ≡ unit (q n) + unit (r n)) → count_by p ns ≡ count_by q ns + count_by r ns
unfolding unit
apart p q r [] same = refl
apart p q r (n ∷ ns) same = omega (arith, count_by-cons p n ns, count_by-cons q n ns, count_by-cons r n ns, same n, apart p q r ns same)

unsettled : (b : Bool) (x : Stage) → unit (b && not (is_settled x)) ≡ unit (b && is_stage Waiting x) + unit (b && is_stage Running x)
unfolding unit
unsettled false x = refl
unsettled true Never = refl
unsettled true Waiting = refl
unsettled true Running = refl
unsettled true Finished = refl

ended : (b : Bool) (x : Stage) → unit (b && is_settled x) ≡ unit (b && is_stage Never x) + unit (b && is_stage Finished x)
unfolding unit
ended false x = refl
ended true Never = refl
ended true Waiting = refl
ended true Running = refl
ended true Finished = refl

either : (b c : Bool) → unit b ≡ unit (b && not c) + unit (b && c)
unfolding unit
either false c = refl
either true true = refl
either true false = refl

pub waits_or_runs : (h : History) (s : ℕ) → (counts h s).waiting + (counts h s).running ≡ count_by (is_unsettled h s) (task_numbers h)
unfolding counts
waits_or_runs h s = sym (apart (is_unsettled h s) (is_at h s Waiting) (is_at h s Running) (task_numbers h) (λ k. unsettled (is_task_of h s k) (stage h k)))

all_tasks : (h : History) (s : ℕ) → (counts h s).waiting + (counts h s).running + ((counts h s).never + (counts h s).finished) ≡ length (tasks_of h s)
unfolding counts tasks_of
all_tasks h s =
    let is_done : ℕ → Bool = λ k. is_task_of h s k && is_settled (stage h k) in
    let all = apart (is_task_of h s) (is_unsettled h s) is_done (task_numbers h) (λ k. either (is_task_of h s k) (is_settled (stage h k))) in
    let done = apart is_done (is_at h s Never) (is_at h s Finished) (task_numbers h) (λ k. ended (is_task_of h s k) (stage h k)) in
    let rest = apart (is_unsettled h s) (is_at h s Waiting) (is_at h s Running) (task_numbers h) (λ k. unsettled (is_task_of h s k) (stage h k)) in
    omega (arith, all, done, rest, length-filter (is_task_of h s) (task_numbers h))

pub tree_awaits : TreeAwaits
tree_awaits h s = ap (λ n. codes ", awaits " ++ decimal n ++ codes " of " ++ decimal ((counts h s).waiting + (counts h s).running + ((counts h s).never + (counts h s).finished))) (waits_or_runs h s)
    ∙ ap (λ n. codes ", awaits " ++ decimal (count_by (is_unsettled h s) (task_numbers h)) ++ codes " of " ++ decimal n) (all_tasks h s)

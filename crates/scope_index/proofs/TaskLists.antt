-- What one event more makes of the tasks of a scope.
use Rattle.std.proofs.Common.{[], ℕ, ◌++◌, ◌+◌, ◌<◌, ◌==◌, ◌∙◌, ◌∷◌, ◌≡◌, Bool, List, Option, ap, arith, cond, false, refl, suc, sym, zero}
use Rattle.scope_index.specs.{Event, Fork, Forking, History, Label, filter, followed, forked_count, forking, is_fork, is_task_of, option_map_or, range_with_len, tasks, tasks_of}
use Rattle.scope_index.proofs.Words.{count_push, filter-append, forking_other, forking_same, next_forking, range_push}

-- one of the list, if the test holds
abbrev pub if_one : Bool → ℕ → List ℕ
if_one b k = cond b (k ∷ []) []

-- tests that agree on the numbers of a range pass the same ones
pub filter_range_same : (p q : ℕ → Bool) (a n : ℕ) → ((i : ℕ) → i < n → p (a + i) ≡ q (a + i)) → filter p (range_with_len a n) ≡ filter q (range_with_len a n)
filter_range_same p q a zero same = refl
filter_range_same p q a (suc n) same =
    let first : p a ≡ q a = let at : a + 0 ≡ a = omega arith in ap p (sym at) ∙ (same 0 (omega arith) ∙ ap q at) in
    let rest = filter_range_same p q (a + 1) n (λ i within. let at : (a + 1) + i ≡ a + suc i = omega arith in ap p at ∙ (same (suc i) (omega (arith, within)) ∙ ap q (sym at))) in
    rw first (ap (λ xs. cond (q a) (a ∷ xs) xs) rest)

-- one number more passes, or doesn't
pub filter_range_more : (p : ℕ → Bool) (a n : ℕ) → filter p (range_with_len a (n + 1)) ≡ filter p (range_with_len a n) ++ if_one (p (a + n)) (a + n)
filter_range_more p a n = ap (filter p) (range_push a n) ∙ filter-append p (range_with_len a n) ((a + n) ∷ [])

-- whether a task is one of a scope goes by its forking alone
pub same_task_of : (g h : History) (s k : ℕ) → forking g k ≡ forking h k → is_task_of g s k ≡ is_task_of h s k
unfolding is_task_of
same_task_of g h s k same = ap (λ (o : Option Forking). option_map_or (λ (f : Forking). f.scope == s) o false) same

-- an event that forks no task leaves the tasks of each scope
pub tasks_kept : (h : History) (e : Event) (s : ℕ) → is_fork e ≡ false → tasks_of (followed h e) s ≡ tasks_of h s
unfolding tasks_of
tasks_kept h e s other =
    let count : forked_count (followed h e) ≡ forked_count h =
    let pushed = count_push is_fork h.events e in
    let none : cond {A = ℕ} (is_fork e) 1 0 ≡ 0 = ap (λ b. cond {A = ℕ} b 1 0) other in
    omega (arith, pushed, none) in
    ap (λ n. filter (is_task_of (followed h e) s) (range_with_len (h.base.tasks + 1) n)) count
    ∙ filter_range_same (is_task_of (followed h e) s) (is_task_of h s) (h.base.tasks + 1) (forked_count h) (λ i within. same_task_of (followed h e) h s ((h.base.tasks + 1) + i) (forking_same h e ((h.base.tasks + 1) + i) other))

-- a fork puts its task last among those of its scope
pub tasks_forked : (h : History) (a s n : ℕ) (label : Label) → tasks_of (followed h (Fork a s label)) n ≡ tasks_of h n ++ if_one (s == n) (tasks h + 1)
unfolding tasks_of is_task_of
tasks_forked h a s n label =
    let e = Fork a s label in
    let g = followed h e in
    let first = h.base.tasks + 1 in
    let count : forked_count g ≡ forked_count h + 1 = let pushed = count_push is_fork h.events e in omega (arith, pushed) in
    let number : first + forked_count h ≡ tasks h + 1 = omega arith in
    let old = filter_range_same (is_task_of g n) (is_task_of h n) first (forked_count h) (λ i within. same_task_of g h n (first + i) (forking_other h e (first + i) (λ (same : tasks h + 1 ≡ first + i). omega (arith, same, within)))) in
    let new : is_task_of g n (tasks h + 1) ≡ (s == n) = ap (λ (o : Option Forking). option_map_or (λ (f : Forking). f.scope == n) o false) (next_forking h a s label) in
    ap (λ m. filter (is_task_of g n) (range_with_len first m)) count
    ∙ (filter_range_more (is_task_of g n) first (forked_count h)
    ∙ (ap (λ xs. xs ++ if_one (is_task_of g n (first + forked_count h)) (first + forked_count h)) old
    ∙ (ap (λ k. tasks_of h n ++ if_one (is_task_of g n k) k) number
    ∙ ap (λ b. tasks_of h n ++ if_one b (tasks h + 1)) new)))

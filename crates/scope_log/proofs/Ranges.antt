-- Queries over the numbers of tasks and of scopes.
use Rattle.std.proofs.Common.{ℕ, ◌+◌, ◌∙◌, ◌∷◌, ◌≡◌, ◌≤◌, Bool, List, Option, ap, arith, cond, count_by, false, map, refl, suc, true, zero}
use Rattle.scope_log.specs.{Event, Retirable, Words.scopes, Words.tasks, cons_option, filter, filter_map, forked_count, list_any, opened_count, range_with_len, retired, scope_numbers, task_numbers, unretired}
use Rattle.scope_log.proofs.{Numbered.forked_so_far, Numbered.opened_so_far, Past.IsScope, Past.IsTask, Past.greater, Splitting.any_numbers, Splitting.count_numbers, Splitting.filter_numbers}

next_after : (b n : ℕ) → (b + 1) + n ≡ (b + n) + 1
next_after b n = omega arith

module _ (r : Retirable) (es : List Event) where
  pub filter_tasks : (p q : ℕ → Bool) → ((k : ℕ) → k ≤ tasks r.past → p k ≡ false) → ((k : ℕ) → IsTask r k → p k ≡ q k) → filter p (task_numbers (unretired r es)) ≡ filter q (task_numbers (retired r es))
  filter_tasks p q none same =
      ap (λ n. filter p (range_with_len (r.past.base.tasks + 1) n)) (forked_so_far r es)
      ∙ (filter_numbers p q (r.past.base.tasks + 1) (forked_count r.past) (forked_count (retired r es)) (λ k less. none k (omega (arith, less))) (λ k more. same k (greater (tasks r.past) k (omega (arith, more))))
      ∙ ap (λ a. filter q (range_with_len a (forked_count (retired r es)))) (next_after r.past.base.tasks (forked_count r.past)))

  pub count_tasks : (p q : ℕ → Bool) → ((k : ℕ) → k ≤ tasks r.past → p k ≡ false) → ((k : ℕ) → IsTask r k → p k ≡ q k) → count_by p (task_numbers (unretired r es)) ≡ count_by q (task_numbers (retired r es))
  count_tasks p q none same =
      ap (λ n. count_by p (range_with_len (r.past.base.tasks + 1) n)) (forked_so_far r es)
      ∙ (count_numbers p q (r.past.base.tasks + 1) (forked_count r.past) (forked_count (retired r es)) (λ k less. none k (omega (arith, less))) (λ k more. same k (greater (tasks r.past) k (omega (arith, more))))
      ∙ ap (λ a. count_by q (range_with_len a (forked_count (retired r es)))) (next_after r.past.base.tasks (forked_count r.past)))

  pub any_tasks : (p q : ℕ → Bool) → ((k : ℕ) → k ≤ tasks r.past → p k ≡ false) → ((k : ℕ) → IsTask r k → p k ≡ q k) → list_any p (task_numbers (unretired r es)) ≡ list_any q (task_numbers (retired r es))
  any_tasks p q none same =
      ap (λ n. list_any p (range_with_len (r.past.base.tasks + 1) n)) (forked_so_far r es)
      ∙ (any_numbers p q (r.past.base.tasks + 1) (forked_count r.past) (forked_count (retired r es)) (λ k less. none k (omega (arith, less))) (λ k more. same k (greater (tasks r.past) k (omega (arith, more))))
      ∙ ap (λ a. list_any q (range_with_len a (forked_count (retired r es)))) (next_after r.past.base.tasks (forked_count r.past)))

  pub any_scopes : (p q : ℕ → Bool) → ((s : ℕ) → s ≤ scopes r.past → p s ≡ false) → ((s : ℕ) → IsScope r s → p s ≡ q s) → list_any p (scope_numbers (unretired r es)) ≡ list_any q (scope_numbers (retired r es))
  any_scopes p q none same =
      ap (λ n. list_any p (range_with_len (r.past.base.scopes + 1) n)) (opened_so_far r es)
      ∙ (any_numbers p q (r.past.base.scopes + 1) (opened_count r.past) (opened_count (retired r es)) (λ s less. none s (omega (arith, less))) (λ s more. same s (greater (scopes r.past) s (omega (arith, more))))
      ∙ ap (λ a. list_any q (range_with_len a (opened_count (retired r es)))) (next_after r.past.base.scopes (opened_count r.past)))

-- what is made of those of a range that pass a test, if two ways to make it are one from a number on
mapped_by : {A : Type 0} (f g : ℕ → Option A) (a n : ℕ) (b : Bool) (ks : List ℕ) → f a ≡ g a → filter_map f ks ≡ filter_map g ks → filter_map f (cond b (a ∷ ks) ks) ≡ filter_map g (cond b (a ∷ ks) ks)
mapped_by f g a n false ks here rest = rest
mapped_by f g a n true ks here rest = rw here (ap (cons_option (g a)) rest)

pub filter_mapped : {A : Type 0} (p : ℕ → Bool) (f g : ℕ → Option A) (a n : ℕ) → ((k : ℕ) → a ≤ k → f k ≡ g k) → filter_map f (filter p (range_with_len a n)) ≡ filter_map g (filter p (range_with_len a n))
filter_mapped p f g a zero same = refl
filter_mapped p f g a (suc n) same = mapped_by f g a n (p a) (filter p (range_with_len (a + 1) n)) (same a (omega arith)) (filter_mapped p f g (a + 1) n (λ k more. same k (omega arith)))

listed_by : {A : Type 0} (f g : ℕ → A) (a n : ℕ) (b : Bool) (ks : List ℕ) → f a ≡ g a → map f ks ≡ map g ks → map f (cond b (a ∷ ks) ks) ≡ map g (cond b (a ∷ ks) ks)
listed_by f g a n false ks here rest = rest
listed_by f g a n true ks here rest = rw here (ap (λ xs. g a ∷ xs) rest)

pub filter_listed : {A : Type 0} (p : ℕ → Bool) (f g : ℕ → A) (a n : ℕ) → ((k : ℕ) → a ≤ k → f k ≡ g k) → map f (filter p (range_with_len a n)) ≡ map g (filter p (range_with_len a n))
filter_listed p f g a zero same = refl
filter_listed p f g a (suc n) same = listed_by f g a n (p a) (filter p (range_with_len (a + 1) n)) (same a (omega arith)) (filter_listed p f g (a + 1) n (λ k more. same k (omega arith)))

-- What a walk has written, and what it ends with.
use Rattle.std.proofs.Common.{[], ℕ, ◌++◌, ◌+◌, ◌-◌, ◌<◌, ◌∙◌, ◌∷◌, ◌≡◌, ◌≤◌, List, None, Option, Some, ap, arith, inl, inr, length, refl, slice_get, suc, sym, take, zero}
use Rattle.tree_dump.specs.{Clock, History, ScopeInfo, TextTree.nested, flat_map, forked_count, info, inner, is_task_of, line_text, lines_at, of_scope, of_task, option_and_then, option_map_or, outermost, scope_line, task_line}
use Rattle.tree_dump.specs.{task_numbers, tasks, tasks_of}
use Rattle.tree_dump.proofs.Lemmas.{append-nil, append_assoc, count_by-le-length, flat_map-append, flat_map_more, length-filter, length-range_with_len, slice_get_cases, take_at, take_whole}

-- ---- what the lines say, one scope and one task after the other

abbrev pub task_lines : Clock → History → (ℕ → Option ℕ → List ℕ) → ℕ → ℕ → List ℕ
task_lines c h inside depth k = task_line c h depth k ++ inside (depth + 1) (outermost h k)

unfoldable pub tasks_lines : Clock → History → (ℕ → Option ℕ → List ℕ) → ℕ → List ℕ → List ℕ
tasks_lines c h inside depth tasks = flat_map (task_lines c h inside depth) tasks

abbrev pub scope_lines : Clock → History → (ℕ → Option ℕ → List ℕ) → ℕ → ScopeInfo → List ℕ
scope_lines c h inside depth i = scope_line c h depth i ++ (tasks_lines c h inside (depth + 1) (tasks_of h i.scope) ++ inside (depth + 1) (inner h i.scope))

tasks_written : (c : Clock) (h : History) (n depth : ℕ) (ks : List ℕ) → flat_map (line_text c h) (flat_map (of_task h (lines_at h n) depth) ks) ≡ flat_map (task_lines c h (nested c h n) depth) ks
unfolding nested
tasks_written c h n depth [] = refl
tasks_written c h n depth (k ∷ ks) =
    flat_map-append (line_text c h) (of_task h (lines_at h n) depth k) (flat_map (of_task h (lines_at h n) depth) ks)
    ∙ ap (λ l. task_lines c h (nested c h n) depth k ++ l) (tasks_written c h n depth ks)

pub nested_is : (c : Clock) (h : History) (n depth : ℕ) (place : Option ℕ) → nested c h (suc n) depth place ≡ option_map_or (scope_lines c h (nested c h n) depth) (option_and_then (info h) place) []
unfolding nested tasks_lines
nested_is c h n depth place = by (option_and_then (info h) place)
  where
    by : (o : Option ScopeInfo) → flat_map (line_text c h) (option_map_or (of_scope h (lines_at h n) depth) o []) ≡ option_map_or (scope_lines c h (nested c h n) depth) o []
    by None = refl
    by (Some i) = ap (λ l. scope_line c h depth i ++ l)
        (flat_map-append (line_text c h) (flat_map (of_task h (lines_at h n) (depth + 1)) (tasks_of h i.scope)) (lines_at h n (depth + 1) (inner h i.scope))
        ∙ ap (λ l. l ++ nested c h n (depth + 1) (inner h i.scope)) (tasks_written c h n (depth + 1) (tasks_of h i.scope)))

-- ---- where nothing stands

pub no_levels : (c : Clock) (h : History) (levels depth : ℕ) (place : Option ℕ) (text : List ℕ) → levels ≡ 0 → text ≡ text ++ nested c h levels depth place
unfolding nested
no_levels c h zero depth place text e = sym (append-nil text)
no_levels c h (suc n) depth place text e = absurd (omega (arith, e))

pub no_scope : (c : Clock) (h : History) (levels depth : ℕ) (place : Option ℕ) (text : List ℕ) → option_and_then (info h) place ≡ None → text ≡ text ++ nested c h levels depth place
unfolding nested
no_scope c h zero depth place text e = sym (append-nil text)
no_scope c h (suc n) depth place text e = sym (append-nil text) ∙ (ap (λ o. text ++ option_map_or (scope_lines c h (nested c h n) depth) o []) (sym e) ∙ ap (λ l. text ++ l) (sym (nested_is c h n depth place)))

pub none_if : {A : Type 0} (o : Option A) → ((x : A) → o ≡ Some x → ⊥) → o ≡ None
none_if None no_some = refl
none_if (Some x) no_some = absurd (no_some x refl)

-- ---- the tasks, one by one

-- before them the scope's own line was written
pub none_yet : (c : Clock) (h : History) (inside : ℕ → Option ℕ → List ℕ) (depth : ℕ) (ks : List ℕ) (start line text : List ℕ) →
    text ≡ start ++ line → text ≡ start ++ (line ++ tasks_lines c h inside depth (take 0 ks))
unfolding tasks_lines
none_yet c h inside depth ks start line text is = is ∙ ap (λ l. start ++ l) (sym (append-nil line))

-- one task more has its lines
pub task_more : (c : Clock) (h : History) (inside : ℕ → Option ℕ → List ℕ) (depth : ℕ) (ks : List ℕ) (i k : ℕ) (start line old new text : List ℕ) →
    slice_get ks i ≡ Some k → old ≡ start ++ (line ++ tasks_lines c h inside depth (take i ks)) →
    new ≡ old ++ task_line c h depth k → text ≡ new ++ inside (depth + 1) (outermost h k) →
    text ≡ start ++ (line ++ tasks_lines c h inside depth (take (i + 1) ks))
unfolding tasks_lines
task_more c h inside depth ks i k start line old new text at before lined within =
    within ∙ (ap (λ t. t ++ inside (depth + 1) (outermost h k)) lined
    ∙ (append_assoc old (task_line c h depth k) (inside (depth + 1) (outermost h k))
    ∙ (ap (λ t. t ++ task_lines c h inside depth k) (before ∙ sym (append_assoc start line (tasks_lines c h inside depth (take i ks))))
    ∙ (flat_map_more (task_lines c h inside depth) (start ++ line) (take i ks) k
    ∙ (ap (λ ts. start ++ line ++ tasks_lines c h inside depth ts) (sym (take_at ks i k at))
    ∙ append_assoc start line (tasks_lines c h inside depth (take (i + 1) ks)))))))

-- ---- all of them

few_tasks : (h : History) (s : ℕ) → length (tasks_of h s) ≤ tasks h
unfolding tasks_of
few_tasks h s = omega (arith, length-filter (is_task_of h s) (task_numbers h), count_by-le-length (is_task_of h s) (task_numbers h), length-range_with_len (h.base.tasks + 1) (forked_count h))

-- if the index has come to their number
pub all_below : (h : History) (s i n : ℕ) → n ≡ tasks h → n ≤ i → take i (tasks_of h s) ≡ tasks_of h s
all_below h s i n is more = take_whole (tasks_of h s) i (omega (arith, is, more, few_tasks h s))

-- if none is at the index
pub all_before : (ks : List ℕ) (i : ℕ) → slice_get ks i ≡ None → take i ks ≡ ks
all_before ks i none = take_whole ks i past
  where
    none_of : (x : _) → slice_get ks i ≡ Some x → length ks ≤ i
    none_of x some = absurd cc

    past : length ks ≤ i
    past = elim (slice_get_cases ks i).1 [ inl some ↦ none_of some.0 some.2 | inr end ↦ end.0 ]

nested_here : (c : Clock) (h : History) (levels depth : ℕ) (place : Option ℕ) (i : ScopeInfo) → 0 < levels → option_and_then (info h) place ≡ Some i → nested c h levels depth place ≡ scope_lines c h (nested c h (levels - 1)) depth i
nested_here c h levels depth place i more there = by (levels - 1) (omega (arith, more))
  where
    by : (n : ℕ) → levels ≡ suc n → nested c h levels depth place ≡ scope_lines c h (nested c h n) depth i
    by n e = ap (λ m. nested c h m depth place) e ∙ (nested_is c h n depth place ∙ ap (λ o. option_map_or (scope_lines c h (nested c h n) depth) o []) there)

-- with what lies inside the scope, the whole is written
pub scope_whole : (c : Clock) (h : History) (levels depth : ℕ) (place : Option ℕ) (i : ScopeInfo) (ks : List ℕ) (start old text : List ℕ) →
    0 < levels → option_and_then (info h) place ≡ Some i → ks ≡ tasks_of h i.scope →
    old ≡ start ++ (scope_line c h depth i ++ tasks_lines c h (nested c h (levels - 1)) (depth + 1) ks) →
    text ≡ old ++ nested c h (levels - 1) (depth + 1) (inner h i.scope) →
    text ≡ start ++ nested c h levels depth place
scope_whole c h levels depth place i ks start old text more there all before within =
    within ∙ (ap (λ t. t ++ rest) (before ∙ ap (λ ts. start ++ (line ++ tasks_lines c h (nested c h (levels - 1)) (depth + 1) ts)) all)
    ∙ (append_assoc start (line ++ lines) rest
    ∙ (ap (λ t. start ++ t) (append_assoc line lines rest)
    ∙ ap (λ t. start ++ t) (sym (nested_here c h levels depth place i more there)))))
  where
    line : List ℕ
    line = scope_line c h depth i

    lines : List ℕ
    lines = tasks_lines c h (nested c h (levels - 1)) (depth + 1) (tasks_of h i.scope)

    rest : List ℕ
    rest = nested c h (levels - 1) (depth + 1) (inner h i.scope)

-- Some levels of a tree are the whole without what lies deeper.
use Rattle.std.proofs.Common.{[], ℕ, ◌&&◌, ◌++◌, ◌+◌, ◌-◌, ◌<◌, ◌∙◌, ◌∷◌, ◌≡◌, ◌≤◌, ◌⊎◌, Bool, List, None, Option, Some, ap, ap₂, arith, codes, cond, false, inl, inr, is_some, min, nat_lt, not, refl, subst, suc, sym, true, zero}
use Rattle.scope_rules.proofs.Forkings.{IsTask}
use Rattle.tree_dump.specs.{Clock, Forking, History, LEVEL_LIMIT, Legal, LevelsShow, Limits, Line, OfScope, OfTask, Opening, RootLevelsShow, ScopeInfo, ShowsLevels.ShowsLevels, TextTree.nested, closed, decimal, filter, flat_map}
use Rattle.tree_dump.specs.{info, info_of, inner, is_task_of, is_within, level, levels_from, line_text, lines_at, of_scope, of_task, opening, option_map_or, outermost, parent, task_numbers, tasks_of, tree_lines, with_sums}
use Rattle.tree_dump.proofs.Lemmas.{cases_lt, filter-append, forked_opened, le-min, level_by_parent, ltb-false, ltb-true, min-eq_left, min-le_left, min-le_right, outermost_is, task_there}
use Rattle.tree_dump.proofs.{Insides.inner_parent, Insides.is_next, Insides.outermost_parent, Lying.lying, Once.as_its_scope, Once.info_is, Once.no_info}
use Rattle.tree_dump.proofs.Lying.{tree_is}

-- the smaller of two
record IsLeast (r a b : ℕ) : Type 0 where
  below : r ≤ a
  under : r ≤ b
  one : (a ≤ r) ⊎ (b ≤ r)

one_less : (r below at m : ℕ) → IsLeast r (below - at) (suc m) → IsLeast (r - 1) (below - (at + 1)) m
one_less r below at m it =
    record {
      below = let a = it.below in omega (arith, a);
      under = let a = it.under in omega (arith, a);
      one = elim it.one [ inl a ↦ inl (omega (arith, a)) | inr b ↦ inr (omega (arith, b)) ];
    }

none_at : (h : History) (n depth : ℕ) → lines_at h n depth None ≡ []
none_at h zero depth = refl
none_at h (suc n) depth = refl

none_of : (h : History) (n depth s : ℕ) → info h s ≡ None → lines_at h n depth (Some s) ≡ []
none_of h zero depth s none = refl
none_of h (suc n) depth s none = ap (λ o. option_map_or (of_scope h (lines_at h n) depth) o []) none

module _ (L : Limits) (h : History) (legal : Legal L h) (below : ℕ) where
  abbrev kept : List Line → List Line
  kept ls = filter (is_within h below) ls

  -- of what lies at a place as deep as `at`, what is kept are so many levels
  abbrev Cuts : ℕ → Type 0
  Cuts m = (depth p r : ℕ) → closed h p ≡ false → IsLeast r (below - level h p) m → kept (lines_at h m depth (Some p)) ≡ lines_at h r depth (Some p)

  level_in : (s p : ℕ) → parent h p ≡ Some s → level h p ≡ level h s + 1
  level_in s p inside = level_by_parent L h p legal ∙ ap (λ x. option_map_or (λ q. level h q + 1) x 1) inside

  at_task : (m depth s k r : ℕ) → Cuts m → IsTask h s k → IsLeast r (below - (level h s + 1)) m → kept (lines_at h m depth (outermost h k)) ≡ lines_at h r depth (outermost h k)
  at_task m depth s k r cuts task least = by (outermost h k) refl
    where
      by : (o : Option ℕ) → outermost h k ≡ o → kept (lines_at h m depth o) ≡ lines_at h r depth o
      by None at = ap kept (none_at h m depth) ∙ sym (none_at h r depth)
      by (Some p) at =
          let inside = outermost_parent L h legal k p task.forked task.is at ∙ ap Some task.of in
          cuts depth p r (is_next h k 0 p (outermost_is h k ∙ at)).unclosed.unclosed (subst (λ n. IsLeast r (below - n) m) (sym (level_in s p inside)) least)

  at_inner : (m depth s r : ℕ) (o : Opening) → opening h s ≡ Some o → closed h s ≡ false → Cuts m → IsLeast r (below - (level h s + 1)) m → kept (lines_at h m depth (inner h s)) ≡ lines_at h r depth (inner h s)
  at_inner m depth s r o is live cuts least = by (inner h s) refl
    where
      by : (x : Option ℕ) → inner h s ≡ x → kept (lines_at h m depth x) ≡ lines_at h r depth x
      by None at = ap kept (none_at h m depth) ∙ sym (none_at h r depth)
      by (Some p) at =
          let it = inner_parent L h legal s p o is live at in
          cuts depth p r it.1.unclosed.unclosed (subst (λ n. IsLeast r (below - n) m) (sym (level_in s p it.0)) least)

  task_kept : (depth s k : ℕ) → IsTask h s k → is_within h below (OfTask depth k) ≡ nat_lt (level h s) below
  task_kept depth s k task = ap (λ (o : Option Forking). option_map_or (λ (f : Forking). nat_lt (level h f.scope) below) o false) task.is ∙ ap (λ t. nat_lt (level h t) below) task.of

  -- the tasks of a scope that is kept, with what lies in them
  tasks_kept : (m depth s r : ℕ) → Cuts m → nat_lt (level h s) below ≡ true → IsLeast r (below - (level h s + 1)) m → (ks : List ℕ) →
      kept (flat_map (of_task h (lines_at h m) depth) (filter (is_task_of h s) ks)) ≡ flat_map (of_task h (lines_at h r) depth) (filter (is_task_of h s) ks)
  tasks_kept m depth s r cuts is least [] = refl
  tasks_kept m depth s r cuts is least (k ∷ ks) = by (is_task_of h s k) refl (tasks_kept m depth s r cuts is least ks)
    where
      others : List ℕ
      others = filter (is_task_of h s) ks

      by : (b : Bool) → is_task_of h s k ≡ b → kept (flat_map (of_task h (lines_at h m) depth) others) ≡ flat_map (of_task h (lines_at h r) depth) others →
          kept (flat_map (of_task h (lines_at h m) depth) (cond b (k ∷ others) others)) ≡ flat_map (of_task h (lines_at h r) depth) (cond b (k ∷ others) others)
      by false not_one rest = rest
      by true is_one rest =
          let task = task_there h s k is_one in
          let inside = lines_at h m (depth + 1) (outermost h k) in
          let after = flat_map (of_task h (lines_at h m) depth) others in
          ap (λ b. cond b (OfTask depth k ∷ kept (inside ++ after)) (kept (inside ++ after))) (task_kept depth s k task ∙ is)
          ∙ (ap (λ l. OfTask depth k ∷ l) (filter-append (is_within h below) inside after)
          ∙ ap₂ (λ a b. OfTask depth k ∷ (a ++ b)) (at_task m (depth + 1) s k r cuts task least) rest)

  -- none is of a scope that is not kept
  tasks_dropped : (m depth s : ℕ) → Cuts m → nat_lt (level h s) below ≡ false → IsLeast 0 (below - (level h s + 1)) m → (ks : List ℕ) →
      kept (flat_map (of_task h (lines_at h m) depth) (filter (is_task_of h s) ks)) ≡ []
  tasks_dropped m depth s cuts is least [] = refl
  tasks_dropped m depth s cuts is least (k ∷ ks) = by (is_task_of h s k) refl (tasks_dropped m depth s cuts is least ks)
    where
      others : List ℕ
      others = filter (is_task_of h s) ks

      by : (b : Bool) → is_task_of h s k ≡ b → kept (flat_map (of_task h (lines_at h m) depth) others) ≡ [] → kept (flat_map (of_task h (lines_at h m) depth) (cond b (k ∷ others) others)) ≡ []
      by false not_one rest = rest
      by true is_one rest =
          let task = task_there h s k is_one in
          let inside = lines_at h m (depth + 1) (outermost h k) in
          let after = flat_map (of_task h (lines_at h m) depth) others in
          ap (λ b. cond b (OfTask depth k ∷ kept (inside ++ after)) (kept (inside ++ after))) (task_kept depth s k task ∙ is)
          ∙ (filter-append (is_within h below) inside after
          ∙ ap₂ (λ a b. a ++ b) (at_task m (depth + 1) s k 0 cuts task least) rest)

  scope_cut : (m depth s r : ℕ) (o : Opening) → opening h s ≡ Some o → closed h s ≡ false → Cuts m → IsLeast r (below - level h s) (suc m) → kept (of_scope h (lines_at h m) depth (info_of h s o)) ≡ lines_at h r depth (Some s)
  unfolding tasks_of
  scope_cut m depth s r o is live cuts least = by (nat_lt (level h s) below) refl
    where
      i : ScopeInfo
      i = info_of h s o

      tasks : List Line
      tasks = flat_map (of_task h (lines_at h m) (depth + 1)) (filter (is_task_of h s) (task_numbers h))

      inside : List Line
      inside = lines_at h m (depth + 1) (inner h s)

      less : IsLeast (r - 1) (below - (level h s + 1)) m
      less = one_less r below (level h s) m least

      by : (b : Bool) → nat_lt (level h s) below ≡ b → cond b (OfScope depth i ∷ kept (tasks ++ inside)) (kept (tasks ++ inside)) ≡ lines_at h r depth (Some s)
      by true is_kept =
          let some : level h s < below = ltb-true (level h s) below is_kept in
          let more : r ≡ suc (r - 1) = elim least.one [ inl a ↦ omega (arith, a, some) | inr b ↦ omega (arith, b) ] in
          ap (λ l. OfScope depth i ∷ l) (filter-append (is_within h below) tasks inside
          ∙ ap₂ (λ a b. a ++ b) (tasks_kept m (depth + 1) s (r - 1) cuts is_kept less (task_numbers h)) (at_inner m (depth + 1) s (r - 1) o is live cuts less))
          ∙ (sym (ap (λ x. option_map_or (of_scope h (lines_at h (r - 1)) depth) x []) (info_is h s o is))
          ∙ ap (λ n. lines_at h n depth (Some s)) (sym more))
      by false not_kept =
          let deep : below ≤ level h s = ltb-false (level h s) below not_kept in
          let none : r ≡ 0 = let a = least.below in omega (arith, a, deep) in
          let nothing : IsLeast 0 (below - (level h s + 1)) m = subst (λ n. IsLeast n (below - (level h s + 1)) m) (omega (arith, none)) less in
          filter-append (is_within h below) tasks inside
          ∙ (ap₂ (λ a b. a ++ b) (tasks_dropped m (depth + 1) s cuts not_kept nothing (task_numbers h)) (at_inner m (depth + 1) s 0 o is live cuts nothing)
          ∙ ap (λ n. lines_at h n depth (Some s)) (sym none))

  cuts : (m : ℕ) → Cuts m
  cuts zero depth p r live least = let a = least.under in let none : 0 ≡ r = omega (arith, a) in ap (λ n. lines_at h n depth (Some p)) none
  cuts (suc m) depth p r live least = by (opening h p) refl (cuts m)
    where
      by : (x : Option Opening) → opening h p ≡ x → Cuts m → kept (lines_at h (suc m) depth (Some p)) ≡ lines_at h r depth (Some p)
      by None is deeper = ap kept (none_of h (suc m) depth p (no_info h p is)) ∙ sym (none_of h r depth p (no_info h p is))
      by (Some o) is deeper =
          ap (λ x. kept (option_map_or (of_scope h (lines_at h m) depth) x [])) (info_is h p o is) ∙ scope_cut m depth p r o is live deeper least

least_is : (a : ℕ) → IsLeast (min a 16) a 16
least_is a =
    record {
      below = min-le_left a 16;
      under = min-le_right a 16;
      one = elim (cases_lt 16 a) [ inr upto ↦ inl (let same = min-eq_left upto in omega (arith, same)) | inl more ↦ inr (by_more more) ];
    }
  where
    by_more : 16 < a → 16 ≤ min a 16
    by_more more = le-min (omega (arith, more)) (omega arith)

module _ (L : Limits) (c : Clock) (h : History) (levels s : ℕ) (legal : Legal L h) (live : closed h s ≡ false) where
  some_levels : nested c h (min levels LEVEL_LIMIT) 0 (Some s) ≡ flat_map (line_text c h) (filter (is_within h (level h s + levels)) (lines_at h 16 0 (Some s)))
  unfolding nested
  some_levels =
      ap (flat_map (line_text c h)) (sym (cuts L h legal (level h s + levels) 16 0 s (min levels 16) live (subst (λ n. IsLeast (min levels 16) n 16) (omega arith) (least_is levels))))

  shows : (place : Option ℕ) → levels_from c h levels place ≡ nested c h (min levels LEVEL_LIMIT) 0 (Some s) → ShowsLevels c h levels s place (lines_at h 16 0 (Some s))
  unfolding nested
  shows place from =
      record {
        whole = refl;
        scopes = λ t o is. lying L h legal s live t o is;
        tasks = λ k f is. as_its_scope h k f is 16 0 (Some s) ∙ (let it = forked_opened L h k f legal is in lying L h legal s live f.scope it.opened it.is);
        shown = ap (with_sums c h) (from ∙ some_levels);
      }

not_closed : (o : Option Opening) (b : Bool) → (is_some o && not b) ≡ true → b ≡ false
not_closed None b is = absurd cc
not_closed (Some o) true is = absurd cc
not_closed (Some o) false is = refl

pub levels_show : LevelsShow
levels_show L c h levels s legal stands = (
  lines_at h 16 0 (Some s),
  shows L c h levels s legal (not_closed (opening h s) (closed h s) stands) (Some s) (ap (λ b. cond b (nested c h (min levels LEVEL_LIMIT) 0 (Some s)) (codes "scope " ++ decimal s ++ codes " is not open\n")) stands),
)

pub root_levels_show : RootLevelsShow
root_levels_show L c h levels s legal at = (
  tree_lines h,
  tree_is L c h legal,
  subst (λ o. ShowsLevels c h levels s None (lines_at h 16 0 o)) (sym at)
      (shows L c h levels s legal (is_next h 0 0 s (outermost_is h 0 ∙ at)).unclosed.unclosed None
      (ap (λ o. option_map_or (λ root. nested c h (min levels LEVEL_LIMIT) 0 (Some root)) o (codes "nothing is open\n")) at)),
)

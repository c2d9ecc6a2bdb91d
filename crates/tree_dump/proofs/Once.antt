-- The tree shows each scope that is not closed, and each of its tasks, exactly once.
use Rattle.std.proofs.Common.{[], ℕ, ◌++◌, ◌+◌, ◌<◌, ◌==◌, ◌∙◌, ◌∷◌, ◌≡◌, ◌≤◌, ◌⊎◌, Bool, List, None, Option, Some, ap, arith, cond, count_by, false, inl, inr, option_map, refl, slice_get, subst, suc, sum_by}
use Rattle.std.proofs.Common.{sym, true, zero}
use Rattle.scope_rules.proofs.Forkings.{IsTask}
use Rattle.tree_dump.specs.{Forking, History, Legal, Limits, Line, OfScope, OfTask, Opening, ScopeInfo, before, closed, flat_map, forked_count, forking, info, info_of, inner, is_of_scope, is_of_task, is_task_of, lines_at}
use Rattle.tree_dump.specs.{of_scope, of_task, opening, option_map_or, outermost, parent, task_numbers, tasks_of}
use Rattle.tree_dump.proofs.Lemmas.{HasUnclosed, cases_eq, eq-eqb, forked_after, forking_row, forking_since, forking_within, length-take, main_unforked, ne_eqb, opening_row}
use Rattle.tree_dump.proofs.Lemmas.{opening_since, opening_within, outermost_is, parent_smaller, running_forked, sum_by-append, sum_by-cons, task_there}
use Rattle.tree_dump.proofs.{Insides.OnChain, Insides.inner_parent, Insides.is_next, Insides.itself, Insides.only_one, Insides.outermost_parent, Insides.smaller, Insides.up, Listed.count_listed, Listed.listed_holds}
use Rattle.tree_dump.proofs.{Listed.some_or_none, Listed.sum_both, Listed.sum_most, Listed.sum_same, Listed.sum_some, Listed.unit}

-- ---- how often a scope has a line

abbrev pub times : ℕ → List Line → ℕ
times t ls = count_by (is_of_scope t) ls

tasks_count : (h : History) (inside : ℕ → Option ℕ → List Line) (t depth : ℕ) (ks : List ℕ) → times t (flat_map (of_task h inside depth) ks) ≡ sum_by (λ k. times t (inside (depth + 1) (outermost h k))) ks
tasks_count h inside t depth [] = refl
tasks_count h inside t depth (k ∷ ks) =
    let rest = tasks_count h inside t depth ks in
    let one = sum_by-cons (λ (l : Line). cond (is_of_scope t l) 1 0) (OfTask depth k) (inside (depth + 1) (outermost h k)) in
    let both = sum_by-append (λ (l : Line). cond (is_of_scope t l) 1 0) (of_task h inside depth k) (flat_map (of_task h inside depth) ks) in
    let sums = sum_by-cons (λ x. times t (inside (depth + 1) (outermost h x))) k ks in
    omega (arith, rest, one, both, sums)

scope_count : (h : History) (inside : ℕ → Option ℕ → List Line) (t depth : ℕ) (i : ScopeInfo) →
    times t (of_scope h inside depth i) ≡ unit (i.scope == t) + (sum_by (λ k. times t (inside (depth + 1 + 1) (outermost h k))) (tasks_of h i.scope) + times t (inside (depth + 1) (inner h i.scope)))
scope_count h inside t depth i =
    let tasks = tasks_count h inside t (depth + 1) (tasks_of h i.scope) in
    let one = sum_by-cons (λ (l : Line). cond (is_of_scope t l) 1 0) (OfScope depth i) (flat_map (of_task h inside (depth + 1)) (tasks_of h i.scope) ++ inside (depth + 1) (inner h i.scope)) in
    let both = sum_by-append (λ (l : Line). cond (is_of_scope t l) 1 0) (flat_map (of_task h inside (depth + 1)) (tasks_of h i.scope)) (inside (depth + 1) (inner h i.scope)) in
    omega (arith, tasks, one, both)

-- ---- the lines of one scope

pub info_is : (h : History) (s : ℕ) (o : Opening) → opening h s ≡ Some o → info h s ≡ Some (info_of h s o)
unfolding info
info_is h s o is = ap (option_map (info_of h s)) is

pub no_info : (h : History) (s : ℕ) → opening h s ≡ None → info h s ≡ None
unfolding info
no_info h s is = ap (option_map (info_of h s)) is

pub no_place : (h : History) (n depth t : ℕ) → times t (lines_at h n depth None) ≡ 0
no_place h zero depth t = refl
no_place h (suc n) depth t = refl

pub split : (h : History) (n depth s t : ℕ) (o : Opening) → opening h s ≡ Some o →
    times t (lines_at h (suc n) depth (Some s)) ≡ unit (s == t) + (sum_by (λ k. times t (lines_at h n (depth + 1 + 1) (outermost h k))) (tasks_of h s) + times t (lines_at h n (depth + 1) (inner h s)))
split h n depth s t o is = ap (λ x. times t (option_map_or (of_scope h (lines_at h n) depth) x [])) (info_is h s o is) ∙ scope_count h (lines_at h n) t depth (info_of h s o)

unit_is : (a b : ℕ) → 0 < unit (a == b) → a ≡ b
unit_is a b some =
    elim (cases_eq a b) [ inl same ↦ same | inr apart ↦ let none : unit (a == b) ≡ 0 = ap unit (ne_eqb a b apart) in absurd (omega (arith, some, none)) ]

module _ (L : Limits) (h : History) (legal : Legal L h) where
  -- what has a line lies below, and is not closed
  record IsBelow (s t p : ℕ) : Type 0 where
    chain : OnChain h t p
    live : closed h t ≡ false
    inside : parent h p ≡ Some s

  abbrev Shows : ℕ → ℕ → Type 0
  Shows n t = (depth p : ℕ) → closed h p ≡ false → 0 < times t (lines_at h n depth (Some p)) → OnChain h t p × (closed h t ≡ false)

  task_below : (n depth s t k : ℕ) → Shows n t → is_task_of h s k ≡ true → 0 < times t (lines_at h n depth (outermost h k)) → (p : ℕ) × HasUnclosed h k p × IsBelow s t p
  task_below n depth s t k shows listed some = by (outermost h k) refl some
    where
      task : IsTask h s k
      task = task_there h s k listed

      by : (o : Option ℕ) → outermost h k ≡ o → 0 < times t (lines_at h n depth o) → (p : ℕ) × HasUnclosed h k p × IsBelow s t p
      by None at there = let none = no_place h n depth t in absurd (omega (arith, there, none))
      by (Some p) at there =
          let next = is_next h k 0 p (outermost_is h k ∙ at) in
          let it = shows depth p next.unclosed.unclosed there in
          (p, next.unclosed, record { chain = it.0; live = it.1; inside = outermost_parent L h legal k p task.forked task.is at ∙ ap Some task.of })

  inner_below : (n depth s t : ℕ) (o : Opening) → Shows n t → opening h s ≡ Some o → closed h s ≡ false → 0 < times t (lines_at h n depth (inner h s)) → (p : ℕ) × HasUnclosed h o.actor p × IsBelow s t p
  inner_below n depth s t o shows is live some = by (inner h s) refl some
    where
      by : (x : Option ℕ) → inner h s ≡ x → 0 < times t (lines_at h n depth x) → (p : ℕ) × HasUnclosed h o.actor p × IsBelow s t p
      by None at there = let none = no_place h n depth t in absurd (omega (arith, there, none))
      by (Some p) at there =
          let parent_is = inner_parent L h legal s p o is live at in
          let it = shows depth p parent_is.1.unclosed.unclosed there in
          (p, parent_is.1.unclosed, record { chain = it.0; live = it.1; inside = parent_is.0 })

  pub listed_task : (s j k : ℕ) → slice_get (tasks_of h s) j ≡ Some k → is_task_of h s k ≡ true
  unfolding tasks_of
  listed_task s j k at = listed_holds (is_task_of h s) (task_numbers h) j k at

  pub shows_below : (n t : ℕ) → Shows n t
  shows_below zero t depth s live some = absurd (omega (arith, some))
  shows_below (suc n) t depth s live some = by (opening h s) refl (shows_below n t)
    where
      by : (x : Option Opening) → opening h s ≡ x → Shows n t → OnChain h t s × (closed h t ≡ false)
      by None is shows =
          let none : times t (lines_at h (suc n) depth (Some s)) ≡ 0 = ap (λ y. times t (option_map_or (of_scope h (lines_at h n) depth) y [])) (no_info h s is) in
          absurd (omega (arith, some, none))
      by (Some o) is shows =
          let parts = split h n depth s t o is in
          elim (some_or_none (unit (s == t))) [
            | inl here ↦ let same = unit_is s t here in (subst (λ z. OnChain h z s) same itself, ap (closed h) (sym same) ∙ live)
            | inr not_here ↦
                elim (some_or_none (sum_by (λ k. times t (lines_at h n (depth + 1 + 1) (outermost h k))) (tasks_of h s))) [
                  | inl tasks ↦
                      let found = sum_some (λ k. times t (lines_at h n (depth + 1 + 1) (outermost h k))) (tasks_of h s) tasks in
                      let it = task_below n (depth + 1 + 1) s t found.1 shows (listed_task s found.0 found.1 found.2) found.3 in
                      (up it.2.chain it.2.inside, it.2.live)
                  | inr no_tasks ↦
                      let it = inner_below n (depth + 1) s t o shows is live (omega (arith, some, parts, not_here, no_tasks)) in
                      (up it.2.chain it.2.inside, it.2.live)
                ]
          ]

  -- ---- at most once

  same_owner : (a b p q : ℕ) → HasUnclosed h a p → HasUnclosed h b q → p ≡ q → a ≡ b
  same_owner a b p q one other same =
      let opened : Some one.opened ≡ Some other.opened = sym one.is ∙ (ap (opening h) same ∙ other.is) in
      let equal : one.opened ≡ other.opened = cc in
      sym one.by ∙ (ap (λ (o : Opening). o.actor) equal ∙ other.by)

  -- a task doesn't own the scope that it was forked in
  not_owner : (s k : ℕ) (o : Opening) → opening h s ≡ Some o → is_task_of h s k ≡ true → o.actor ≡ k → ⊥
  not_owner s k o is listed same =
      let task = task_there h s k listed in
      let owner = (forking_row L h k task.forked legal task.is).owner in
      let there = opening_since h task.forked.scope task.forked.place owner.opened owner.is in
      let opened : Some owner.opened ≡ Some o = sym there ∙ (ap (opening h) task.of ∙ is) in
      let equal : owner.opened ≡ o = cc in
      let sooner : owner.opened.place < task.forked.place = omega (arith, opening_within (before h task.forked.place) task.forked.scope owner.opened owner.is, length-take task.forked.place h.events) in
      let places : owner.opened.place ≡ o.place = ap (λ (x : Opening). x.place) equal in
      elim (opening_row L h s o legal is) [
        | inl main ↦ main_unforked h k task.forked (sym same ∙ main) task.is
        | inr runs ↦
            let it = running_forked (before h o.place) o.actor runs in
            let again : Some it.forked ≡ Some task.forked = sym (forking_since h o.actor o.place it.forked it.is) ∙ (ap (forking h) same ∙ task.is) in
            let one : it.forked ≡ task.forked = cc in
            let later : it.forked.place < o.place = omega (arith, forking_within (before h o.place) o.actor it.forked it.is, length-take o.place h.events) in
            let equal_places : it.forked.place ≡ task.forked.place = ap (λ (x : Forking). x.place) one in
            omega (arith, sooner, places, later, equal_places)
      ]

  not_itself : (s p : ℕ) → OnChain h s p → parent h p ≡ Some s → ⊥
  not_itself s p chain is = let low = smaller L h legal s p chain in omega (arith, low, (parent_smaller L h p s legal is).1)

  abbrev Most : ℕ → ℕ → Type 0
  Most n t = (depth s : ℕ) → closed h s ≡ false → times t (lines_at h n depth (Some s)) ≤ 1

  task_most : (n t depth k : ℕ) → Most n t → times t (lines_at h n depth (outermost h k)) ≤ 1
  task_most n t depth k most = by (outermost h k) refl
    where
      by : (o : Option ℕ) → outermost h k ≡ o → times t (lines_at h n depth o) ≤ 1
      by None at = let none = no_place h n depth t in omega (arith, none)
      by (Some p) at = most depth p (is_next h k 0 p (outermost_is h k ∙ at)).unclosed.unclosed

  inner_most : (n t depth s : ℕ) (o : Opening) → opening h s ≡ Some o → closed h s ≡ false → Most n t → times t (lines_at h n depth (inner h s)) ≤ 1
  inner_most n t depth s o is live most = by (inner h s) refl
    where
      by : (x : Option ℕ) → inner h s ≡ x → times t (lines_at h n depth x) ≤ 1
      by None at = let none = no_place h n depth t in omega (arith, none)
      by (Some p) at = most depth p (inner_parent L h legal s p o is live at).1.unclosed.unclosed

  tasks_most : (n t depth s : ℕ) → Most n t → sum_by (λ k. times t (lines_at h n depth (outermost h k))) (tasks_of h s) ≤ 1
  unfolding tasks_of
  tasks_most n t depth s most =
      sum_most (is_task_of h s) (λ k. times t (lines_at h n depth (outermost h k))) (forked_count h) (h.base.tasks + 1) (λ k. task_most n t depth k most)
      (λ k x listed other some also.
      let one = task_below n depth s t k (shows_below n t) listed some in
      let two = task_below n depth s t x (shows_below n t) other also in
      same_owner k x one.0 two.0 one.1 two.1 (only_one L h legal t one.0 two.0 s one.2.chain two.2.chain one.2.inside two.2.inside))

  pub most_once : (n t : ℕ) → Most n t
  most_once zero t depth s live = omega arith
  most_once (suc n) t depth s live = by (opening h s) refl (most_once n t)
    where
      by : (x : Option Opening) → opening h s ≡ x → Most n t → times t (lines_at h (suc n) depth (Some s)) ≤ 1
      by None is most =
          let none : times t (lines_at h (suc n) depth (Some s)) ≡ 0 = ap (λ y. times t (option_map_or (of_scope h (lines_at h n) depth) y [])) (no_info h s is) in
          omega (arith, none)
      by (Some o) is most =
          let parts = split h n depth s t o is in
          let a = tasks_most n t (depth + 1 + 1) s most in
          let b = inner_most n t (depth + 1) s o is live most in
          let f : ℕ → ℕ = λ k. times t (lines_at h n (depth + 1 + 1) (outermost h k)) in
          elim (some_or_none (sum_by (λ k. times t (lines_at h n (depth + 1 + 1) (outermost h k))) (tasks_of h s))) [
            | inl tasks ↦
                let found = sum_some (λ k. times t (lines_at h n (depth + 1 + 1) (outermost h k))) (tasks_of h s) tasks in
                let listed = listed_task s found.0 found.1 found.2 in
                let one = task_below n (depth + 1 + 1) s t found.1 (shows_below n t) listed found.3 in
                let no_inner = without (some_or_none (times t (lines_at h n (depth + 1) (inner h s)))) (λ also.
                let two = inner_below n (depth + 1) s t o (shows_below n t) is live also in
                not_owner s found.1 o is listed (sym (same_owner found.1 o.actor one.0 two.0 one.1 two.1 (only_one L h legal t one.0 two.0 s one.2.chain two.2.chain one.2.inside two.2.inside)))) in
                let not_here = without (some_or_none (unit (s == t))) (λ here. not_itself s one.0 (subst (λ z. OnChain h z one.0) (sym (unit_is s t here)) one.2.chain) one.2.inside) in
                omega (arith, parts, a, no_inner, not_here)
            | inr no_tasks ↦
                elim (some_or_none (times t (lines_at h n (depth + 1) (inner h s)))) [
                  | inl inside ↦
                      let two = inner_below n (depth + 1) s t o (shows_below n t) is live inside in
                      let not_here = without (some_or_none (unit (s == t))) (λ here. not_itself s two.0 (subst (λ z. OnChain h z two.0) (sym (unit_is s t here)) two.2.chain) two.2.inside) in
                      omega (arith, parts, b, no_tasks, not_here)
                  | inr none ↦ let most_one = unit_most (s == t) in omega (arith, parts, no_tasks, none, most_one)
                ]
          ]
        where
          without : {n : ℕ} → (0 < n) ⊎ (n ≡ 0) → (0 < n → ⊥) → n ≡ 0
          without (inl some) never_some = absurd (never_some some)
          without (inr none) never_some = none

          unit_most : (c : Bool) → unit c ≤ 1
          unit_most true = omega arith
          unit_most false = omega arith

-- ---- tasks

abbrev pub times_task : ℕ → List Line → ℕ
times_task k ls = count_by (is_of_task k) ls

tasks_counted : (h : History) (inside : ℕ → Option ℕ → List Line) (k depth : ℕ) (ks : List ℕ) → times_task k (flat_map (of_task h inside depth) ks) ≡ sum_by (λ x. unit (x == k) + times_task k (inside (depth + 1) (outermost h x))) ks
tasks_counted h inside k depth [] = refl
tasks_counted h inside k depth (x ∷ ks) =
    let rest = tasks_counted h inside k depth ks in
    let one = sum_by-cons (λ (l : Line). cond (is_of_task k l) 1 0) (OfTask depth x) (inside (depth + 1) (outermost h x)) in
    let both = sum_by-append (λ (l : Line). cond (is_of_task k l) 1 0) (of_task h inside depth x) (flat_map (of_task h inside depth) ks) in
    let sums = sum_by-cons (λ y. unit (y == k) + times_task k (inside (depth + 1) (outermost h y))) x ks in
    omega (arith, rest, one, both, sums)

listed_once : (h : History) (s k : ℕ) (f : Forking) → forking h k ≡ Some f → sum_by (λ x. unit (x == k)) (tasks_of h s) ≡ unit (s == f.scope)
unfolding tasks_of is_task_of
listed_once h s k f is =
    let it = forked_after h k f is in
    count_listed (is_task_of h s) k (forked_count h) (h.base.tasks + 1) (omega (arith, it.2)) (omega (arith, it.1, it.2))
    ∙ (ap (λ (o : Option Forking). unit (option_map_or (λ (g : Forking). g.scope == s) o false)) is ∙ swap f.scope s)
  where
    swap : (a b : ℕ) → unit (a == b) ≡ unit (b == a)
    swap a b = elim (cases_eq a b) [ inl same ↦ ap unit (eq-eqb a b same ∙ sym (eq-eqb b a (sym same))) | inr apart ↦ ap unit (ne_eqb a b apart ∙ sym (ne_eqb b a (λ same. apart (sym same)))) ]

-- a task has as many lines as its scope
pub as_its_scope : (h : History) (k : ℕ) (f : Forking) → forking h k ≡ Some f → (n depth : ℕ) (place : Option ℕ) → times_task k (lines_at h n depth place) ≡ times f.scope (lines_at h n depth place)
as_its_scope h k f is zero depth place = refl
as_its_scope h k f is (suc n) depth None = refl
as_its_scope h k f is (suc n) depth (Some s) = by (opening h s) refl (as_its_scope h k f is n)
  where
    by : (x : Option Opening) → opening h s ≡ x → ((d : ℕ) (place : Option ℕ) → times_task k (lines_at h n d place) ≡ times f.scope (lines_at h n d place)) → times_task k (lines_at h (suc n) depth (Some s)) ≡ times f.scope (lines_at h (suc n) depth (Some s))
    by None none same =
        ap (λ y. times_task k (option_map_or (of_scope h (lines_at h n) depth) y [])) (no_info h s none)
        ∙ sym (ap (λ y. times f.scope (option_map_or (of_scope h (lines_at h n) depth) y [])) (no_info h s none))
    by (Some o) opened same =
        let i = info_of h s o in
        let here : times_task k (lines_at h (suc n) depth (Some s)) ≡ times_task k (of_scope h (lines_at h n) depth i) = ap (λ y. times_task k (option_map_or (of_scope h (lines_at h n) depth) y [])) (info_is h s o opened) in
        let one = sum_by-cons (λ (l : Line). cond (is_of_task k l) 1 0) (OfScope depth i) (flat_map (of_task h (lines_at h n) (depth + 1)) (tasks_of h s) ++ lines_at h n (depth + 1) (inner h s)) in
        let both = sum_by-append (λ (l : Line). cond (is_of_task k l) 1 0) (flat_map (of_task h (lines_at h n) (depth + 1)) (tasks_of h s)) (lines_at h n (depth + 1) (inner h s)) in
        let tasks = tasks_counted h (lines_at h n) k (depth + 1) (tasks_of h s) in
        let apart = sum_both (λ x. unit (x == k)) (λ x. times_task k (lines_at h n (depth + 1 + 1) (outermost h x))) (tasks_of h s) in
        let listed = listed_once h s k f is in
        let under = sum_same (λ x. times_task k (lines_at h n (depth + 1 + 1) (outermost h x))) (λ x. times f.scope (lines_at h n (depth + 1 + 1) (outermost h x))) (tasks_of h s) (λ x. same (depth + 1 + 1) (outermost h x)) in
        let inside = same (depth + 1) (inner h s) in
        let parts = split h n depth s f.scope o opened in
        omega (arith, here, one, both, tasks, apart, listed, under, inside, parts)

-- The text of the tree behind a retirement is that without it.
use Rattle.std.proofs.Common.{[], ℕ, ◌++◌, ◌+◌, ◌-◌, ◌∙◌, ◌∷◌, ◌≡◌, Bool, List, None, Option, Some, ap, ap₂, arith, codes, cond, false, map, nat_lt, refl, slice_get, subst, suc, sym, true, zero}
use Rattle.scope_log.proofs.Past.{IsTask}
use Rattle.tree_dump.specs.{Event, Finished, History, LEVEL_LIMIT, Label, NamesNone, Never, Realm, Retirable, Running, ScopeInfo, Stage, TextTree.nested, TextTree.open_text, TreeStays, Waiting, aged_scope, counts, flat_map}
use Rattle.tree_dump.specs.{forked_count, found_wait, info, inner, is_task_of, label, late_by, line, moment_line, no_clock, option_and_then, option_map_or, outermost, reading_in, retired, scope_age}
use Rattle.tree_dump.specs.{scope_line, scope_text, since, span_text, stage, state, task_age, task_ages, task_line, task_text, task_wait, tasks, tasks_of, tree_by, tree_text, unretired, wait_text}
use Rattle.tree_dump.proofs.Lemmas.{IsScope, filter_listed, greater, inner_new, leaves_alike, outermost_new, same_counts, same_info, same_inner, same_label, same_moment, same_outermost, same_stage, same_state, same_tasks_of}
use Rattle.tree_dump.proofs.{TextWalked.nested_is, TextWalked.scope_lines, TextWalked.task_lines, TextWalked.tasks_lines, Walked.info_scope}

flat_same : (f g : ℕ → List ℕ) (ks : List ℕ) → map f ks ≡ map g ks → flat_map f ks ≡ flat_map g ks
flat_same f g [] e = refl
flat_same f g (k ∷ ks) e =
    let first : f k ≡ g k = cc in
    let others : map f ks ≡ map g ks = cc in
    ap₂ (λ xs ys. xs ++ ys) first (flat_same f g ks others)

-- ---- without a clock no age is shown

abbrev picked : {A : Type 0} → Bool → ℕ → Option A
picked b i = cond b (slice_get [] i) None

no_reading : {A : Type 0} (before n : ℕ) → reading_in {A = A} [] before n ≡ None
no_reading {A = A} before n = by (nat_lt before n)
  where
    by : (b : Bool) → picked {A = A} b (n - before - 1) ≡ None
    by true = refl
    by false = refl

no_age : (h : History) (k : ℕ) (st : Stage) → span_text (codes " for ") (task_age no_clock h k st) ≡ []
unfolding span_text
no_age h k Waiting = ap (λ o. span_text (codes " for ") (option_and_then (since no_clock) o)) (no_reading h.base.tasks k)
no_age h k Running = ap (λ o. span_text (codes " for ") (option_and_then (since no_clock) o)) (no_reading h.base.tasks k)
no_age h k Never = refl
no_age h k Finished = refl

no_wait : (h : History) (k : ℕ) (st : Stage) → wait_text (codes ", ") None (task_wait no_clock h k st) ≡ []
unfolding wait_text
no_wait h k Running = ap (λ o. wait_text (codes ", ") None (found_wait o)) (no_reading h.base.tasks k)
no_wait h k Waiting = refl
no_wait h k Never = refl
no_wait h k Finished = refl

no_ages : (h : History) (k : ℕ) → task_ages no_clock h k ≡ []
no_ages h k = ap₂ (λ xs ys. xs ++ ys) (no_age h k (stage h k)) (no_wait h k (stage h k))

abbrev untimed_line : History → ℕ → ℕ → List ℕ
untimed_line h depth k = option_map_or (λ (l : Label). line depth (task_text k l.name (stage h k) (state h k) ++ [])) (label h k) []

untimed : (h : History) (depth k : ℕ) → task_line no_clock h depth k ≡ untimed_line h depth k
unfolding task_line
untimed h depth k = ap (λ t. option_map_or (λ (l : Label). line depth (task_text k l.name (stage h k) (state h k) ++ t)) (label h k) []) (no_ages h k)

no_scope_age : (h : History) (s : ℕ) → scope_age no_clock h s ≡ None
no_scope_age h s = ap (option_and_then (since no_clock)) (no_reading h.base.scopes s)

untimed_scope : (h : History) (depth : ℕ) (i : ScopeInfo) → scope_line no_clock h depth i ≡ line depth (scope_text i (counts h i.scope) None ++ [] ++ [])
unfolding aged_scope span_text
untimed_scope h depth i = ap (λ o. line depth (scope_text i (counts h i.scope) None ++ span_text (codes ", open for ") o ++ span_text (codes ", late by ") (option_and_then (λ (age : ℕ). late_by no_clock i.joined i.deadline) o))) (no_scope_age h i.scope)

module _ (r : Retirable) (es : List Event) (none : NamesNone r es) where
  -- a scope that lies somewhere was not let go
  abbrev IsPlace : Option ℕ → Type 0
  IsPlace place = (s : ℕ) → place ≡ Some s → IsScope r s

  same_untimed : (depth k : ℕ) → IsTask r k → untimed_line (unretired r es) depth k ≡ untimed_line (retired r es) depth k
  same_untimed depth k new = rw (same_label r es k new) (rw (same_stage r es none k new) (rw (same_state r es none k new) refl))

  line_alike : (depth k : ℕ) → IsTask r k → task_line no_clock (unretired r es) depth k ≡ task_line no_clock (retired r es) depth k
  unfolding task_line
  line_alike depth k new = untimed (unretired r es) depth k ∙ (same_untimed depth k new ∙ sym (untimed (retired r es) depth k))

  module _ (n : ℕ) (inside : (depth : ℕ) (place : Option ℕ) → IsPlace place → nested no_clock (unretired r es) n depth place ≡ nested no_clock (retired r es) n depth place) where
    lines_alike : (depth k : ℕ) → IsTask r k → task_lines no_clock (unretired r es) (nested no_clock (unretired r es) n) depth k ≡ task_lines no_clock (retired r es) (nested no_clock (retired r es) n) depth k
    lines_alike depth k new =
        ap₂ (λ xs ys. xs ++ ys) (line_alike depth k new)
        (ap (nested no_clock (unretired r es) n (depth + 1)) (same_outermost r es k) ∙ inside (depth + 1) (outermost (retired r es) k) (λ s found. outermost_new r es k s found))

    tasks_alike : (depth s : ℕ) → IsScope r s → tasks_lines no_clock (unretired r es) (nested no_clock (unretired r es) n) depth (tasks_of (unretired r es) s) ≡ tasks_lines no_clock (retired r es) (nested no_clock (retired r es) n) depth (tasks_of (retired r es) s)
    unfolding tasks_lines tasks_of
    tasks_alike depth s new =
        ap (λ ks. flat_map (task_lines no_clock (unretired r es) (nested no_clock (unretired r es) n) depth) ks) (same_tasks_of r es none s new)
        ∙ flat_same (task_lines no_clock (unretired r es) (nested no_clock (unretired r es) n) depth) (task_lines no_clock (retired r es) (nested no_clock (retired r es) n) depth) (tasks_of (retired r es) s)
        (filter_listed (is_task_of (retired r es) s) (task_lines no_clock (unretired r es) (nested no_clock (unretired r es) n) depth) (task_lines no_clock (retired r es) (nested no_clock (retired r es) n) depth) (tasks r.past + 1) (forked_count (retired r es))
        (λ k more. lines_alike depth k (greater (tasks r.past) k (omega (arith, more)))))

    scope_alike : (depth : ℕ) (i : ScopeInfo) → IsScope r i.scope → scope_lines no_clock (unretired r es) (nested no_clock (unretired r es) n) depth i ≡ scope_lines no_clock (retired r es) (nested no_clock (retired r es) n) depth i
    scope_alike depth i new =
        ap₂ (λ xs ys. xs ++ ys) (untimed_scope (unretired r es) depth i ∙ (ap (λ c. line depth (scope_text i c None ++ [] ++ [])) (same_counts r es none i.scope new) ∙ sym (untimed_scope (retired r es) depth i)))
        (ap₂ (λ xs ys. xs ++ ys) (tasks_alike (depth + 1) i.scope new)
        (ap (nested no_clock (unretired r es) n (depth + 1)) (same_inner r es i.scope new) ∙ inside (depth + 1) (inner (retired r es) i.scope) (λ t found. inner_new r es i.scope t found)))

    place_alike : (depth s : ℕ) → IsScope r s → option_map_or (scope_lines no_clock (unretired r es) (nested no_clock (unretired r es) n) depth) (info (unretired r es) s) [] ≡ option_map_or (scope_lines no_clock (retired r es) (nested no_clock (retired r es) n) depth) (info (retired r es) s) []
    place_alike depth s new = ap (λ o. option_map_or (scope_lines no_clock (unretired r es) (nested no_clock (unretired r es) n) depth) o []) (same_info r es none s new) ∙ by (info (retired r es) s) refl
      where
        by : (o : Option ScopeInfo) → info (retired r es) s ≡ o → option_map_or (scope_lines no_clock (unretired r es) (nested no_clock (unretired r es) n) depth) o [] ≡ option_map_or (scope_lines no_clock (retired r es) (nested no_clock (retired r es) n) depth) o []
        by None is = refl
        by (Some i) is = scope_alike depth i (subst (IsScope r) (sym (info_scope (retired r es) s i is)) new)

  nested_alike : (n depth : ℕ) (place : Option ℕ) → IsPlace place → nested no_clock (unretired r es) n depth place ≡ nested no_clock (retired r es) n depth place
  unfolding nested
  nested_alike zero depth place new = refl
  nested_alike (suc n) depth None new = refl
  nested_alike (suc n) depth (Some s) new = nested_is no_clock (unretired r es) n depth (Some s) ∙ (place_alike n (λ deeper place there. nested_alike n deeper place there) depth s (new s refl) ∙ sym (nested_is no_clock (retired r es) n depth (Some s)))

  open_alike : open_text no_clock (unretired r es) (outermost (unretired r es) 0) ≡ open_text no_clock (retired r es) (outermost (retired r es) 0)
  open_alike = ap (open_text no_clock (unretired r es)) (same_outermost r es 0) ∙ by (outermost (retired r es) 0) (λ s found. outermost_new r es 0 s found)
    where
      by : (o : Option ℕ) → IsPlace o → open_text no_clock (unretired r es) o ≡ open_text no_clock (retired r es) o
      by None new = refl
      by (Some s) new = nested_alike LEVEL_LIMIT 0 (Some s) new

  pub text_alike : tree_text (unretired r es) ≡ tree_text (retired r es)
  unfolding tree_by
  text_alike = ap₂ (λ m xs. moment_line m None None ++ xs) (same_moment r es) open_alike

pub tree_stays : TreeStays
tree_stays L commands free =
    let it = leaves_alike L commands free in
    ap (λ (g : Realm). tree_text g.history) it.is_whole ∙ (text_alike it.last.past it.last.since it.last.none ∙ sym (ap (λ (g : Realm). tree_text g.history) it.is_rest))

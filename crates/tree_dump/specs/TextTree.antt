-- The tree of the scopes that are not closed, as text.
use Rattle.std.specs.Prelude.{[], ℕ, ◌++◌, ◌+◌, ◌∷◌, List, None, Option, Some, codes, suc, zero}
use Rattle.tree_dump.specs.Terms.{Counts, History, LEVEL_LIMIT, ScopeInfo, counts, flat_map, info, inner, label, moment, option_and_then, option_map_or, outermost, stage, state, tasks_of}
use Rattle.tree_dump.specs.{Ages.Clock, Ages.due_in, Ages.no_clock, Ages.scope_age, Ages.scope_late, Ages.span_text, Ages.task_age, TextLines.indent, TextLines.moment_line, TextLines.scope_text, TextLines.task_text}
use Rattle.tree_dump.specs.{Waits.task_wait, Waits.wait_text}

-- a line at this depth
abbrev pub line : ℕ → List ℕ → List ℕ
line depth text = indent depth ++ text ++ 10 ∷ []

-- a scope, with in how long its deadline comes, how long it is open and how late it is
unfoldable pub aged_scope : ScopeInfo → Counts → Option ℕ → Option ℕ → Option ℕ → List ℕ
aged_scope i c due age late = scope_text i c due ++ span_text (codes ", open for ") age ++ span_text (codes ", late by ") late

-- the line of the scope of which there is this to say
abbrev pub scope_line : Clock → History → ℕ → ScopeInfo → List ℕ
scope_line c h depth i = line depth (aged_scope i (counts h i.scope) (due_in c i) (scope_age c h i.scope) (scope_late c h i))

-- how long task k waits or runs, and in which call it waits
abbrev pub task_ages : Clock → History → ℕ → List ℕ
task_ages c h k = span_text (codes " for ") (task_age c h k (stage h k)) ++ wait_text (codes ", ") c.now (task_wait c h k (stage h k))

-- the line of task k, if it was forked since the base
unfoldable pub task_line : Clock → History → ℕ → ℕ → List ℕ
task_line c h depth k = option_map_or (λ l. line depth (task_text k l.name (stage h k) (state h k) ++ task_ages c h k)) (label h k) []

-- ---- the lines

-- a line of a tree: of a scope or of a task, so deep
pub data Line : Type 0 where
  OfScope : ℕ → ScopeInfo → Line
  OfTask : ℕ → ℕ → Line

-- task k at this depth, and below it what lies inside it
abbrev pub of_task : History → (ℕ → Option ℕ → List Line) → ℕ → ℕ → List Line
of_task h inside depth k = OfTask depth k ∷ inside (depth + 1) (outermost h k)

-- a scope at this depth, and below it its tasks in fork order, and what lies inside it
abbrev pub of_scope : History → (ℕ → Option ℕ → List Line) → ℕ → ScopeInfo → List Line
of_scope h inside depth i = OfScope depth i ∷ (flat_map (of_task h inside (depth + 1)) (tasks_of h i.scope) ++ inside (depth + 1) (inner h i.scope))

-- what stands where a scope may lie, down to so many levels of scopes
abbrev pub lines_at : History → ℕ → ℕ → Option ℕ → List Line
lines_at h zero depth place = []
lines_at h (suc n) depth place = option_map_or (of_scope h (lines_at h n) depth) (option_and_then (info h) place) []

-- all of them: from main's outermost scope on
abbrev pub tree_lines : History → List Line
tree_lines h = lines_at h LEVEL_LIMIT 0 (outermost h 0)

-- ---- the text

abbrev pub line_text : Clock → History → Line → List ℕ
line_text c h (OfScope depth i) = scope_line c h depth i
line_text c h (OfTask depth k) = task_line c h depth k

unfoldable pub nested : Clock → History → ℕ → ℕ → Option ℕ → List ℕ
nested c h n depth place = flat_map (line_text c h) (lines_at h n depth place)

-- main's outermost scope with all inside it, or that there is none
abbrev pub open_text : Clock → History → Option ℕ → List ℕ
open_text c h None = codes "nothing is open\n"
open_text c h (Some s) = nested c h LEVEL_LIMIT 0 (Some s)

-- the text of the history's tree, with ages by a clock
unfoldable pub tree_by : Clock → History → List ℕ
tree_by c h = moment_line (moment h) c.now c.main ++ open_text c h (outermost h 0)

-- without them
abbrev pub tree_text : History → List ℕ
tree_text h = tree_by no_clock h

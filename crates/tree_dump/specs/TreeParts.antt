-- Parts of the tree, as text, and what all that is open sums up to.
use Rattle.std.specs.Prelude.{[], ℕ, ◌&&◌, ◌++◌, Bool, List, None, Option, Some, codes, count_by, false, if◌then◌else◌, is_some, min, not, true}
use Rattle.tree_dump.specs.Terms.{Finished, History, LEVEL_LIMIT, Never, Running, ScopeInfo, Stage, Sums, TreePart, Waiting, closed, decimal, filter, flat_map, forking, info, is_stage, is_unsettled, moment, opening}
use Rattle.tree_dump.specs.Terms.{option_map_or, outermost, scope_numbers, settled, stage, task_numbers}
use Rattle.tree_dump.specs.{Ages.Clock, TextLines.moment_line, TextTree.nested, TextTree.scope_line, TextTree.task_line, TextTree.tree_by}
use Rattle.tree_dump.specs.declared.parts.TreePart.TheVariants as part

-- ---- all that is open

abbrev pub is_unclosed : History → ℕ → Bool
is_unclosed h s = not (closed h s)

-- task k is at the stage, and its scope is not closed
abbrev pub is_shown : History → Stage → ℕ → Bool
is_shown h x k = option_map_or (λ f. is_stage x (stage h k) && not (closed h f.scope)) (forking h k) false

-- how many scopes are not closed, and how many of their tasks are at each stage
abbrev pub sums : History → Sums
sums h = record {
  scopes = count_by (is_unclosed h) (scope_numbers h);
  waiting = count_by (is_shown h Waiting) (task_numbers h);
  running = count_by (is_shown h Running) (task_numbers h);
  finished = count_by (is_shown h Finished) (task_numbers h);
  never = count_by (is_shown h Never) (task_numbers h);
}

abbrev pub awaited_sums : Sums → List ℕ
awaited_sums u = codes "open in all: scopes " ++ decimal u.scopes ++ codes ", tasks waiting " ++ decimal u.waiting ++ codes ", running " ++ decimal u.running

abbrev pub ended_sums : Sums → List ℕ
ended_sums u = codes "finished " ++ (decimal u.finished ++ (codes ", never started " ++ decimal u.never))

abbrev pub sums_text : Sums → List ℕ
sums_text u = awaited_sums u ++ (codes ", " ++ (ended_sums u ++ codes "\n"))

-- ---- what is waited for

abbrev pub waits : Stage → Bool
waits Waiting = true
waits Running = true
waits _ = false

-- task k, if it waits or runs
unfoldable pub awaited_task : Clock → History → ℕ → List ℕ
awaited_task c h k = if waits (stage h k) then task_line c h 1 k else []

-- a scope, and below it its tasks that wait or run, in fork order
abbrev pub awaited_lines : Clock → History → ScopeInfo → List ℕ
awaited_lines c h i = scope_line c h 0 i ++ flat_map (task_line c h 1) (filter (is_unsettled h i.scope) (task_numbers h))

unfoldable pub awaited_scope : Clock → History → ℕ → List ℕ
awaited_scope c h s = option_map_or (awaited_lines c h) (info h s) []

-- scope s is not closed, and a task of it waits or runs
abbrev pub is_awaiting : History → ℕ → Bool
is_awaiting h s = not (closed h s) && not (settled h s)

abbrev pub awaited_if : Clock → History → ℕ → List ℕ
awaited_if c h s = if is_awaiting h s then awaited_scope c h s else []

-- all such scopes, each once, in the order of their openings: the oldest first
abbrev pub awaited : Clock → History → List ℕ
awaited c h = flat_map (awaited_scope c h) (filter (is_awaiting h) (scope_numbers h))

-- ---- some levels

-- scope s was opened since the base, and is not closed
abbrev pub stands : History → ℕ → Bool
stands h s = is_some (opening h s) && not (closed h s)

-- so many levels of scopes: from scope s on, if it stands, or from main's outermost scope
abbrev pub levels_from : Clock → History → ℕ → Option ℕ → List ℕ
levels_from c h depth None = option_map_or (λ root. nested c h (min depth LEVEL_LIMIT) 0 (Some root)) (outermost h 0) (codes "nothing is open\n")
levels_from c h depth (Some s) = if stands h s then nested c h (min depth LEVEL_LIMIT) 0 (Some s) else codes "scope " ++ decimal s ++ codes " is not open\n"

-- ---- parts

-- the moment, a part, and the sums
abbrev pub with_sums : Clock → History → List ℕ → List ℕ
with_sums c h text = moment_line (moment h) c.now c.main ++ (text ++ sums_text (sums h))

abbrev pub part_text : Clock → History → TreePart → List ℕ
part_text c h part.Whole = tree_by c h
part_text c h part.Awaited = with_sums c h (awaited c h)
part_text c h (part.Levels depth scope) = with_sums c h (levels_from c h depth scope)

-- What each call makes of the rows.
use Rattle.std.specs.Prelude.{[], ℕ, ◌++◌, ◌+◌, ◌-◌, ◌==◌, ◌||◌, ◌∷◌, Bool, List, None, Option, Some, false, if◌then◌else◌, length, not, suc, true, unwrap_or, zero}
use Rattle.scope_rows.specs.Words.{Counts, EndValue, Finished, Never, Opening, Running, ScopeRow, Stage, State, TaskRow, Unavailable, Waiting, option_and_then, option_map_or, state_by_end}
use Rattle.scope_rows.specs.Table.{RowTable, innermost_of, place_of, row_of, scope_of}

-- the rows with the i-th, from 0, changed
abbrev pub altered : {R : Type 0} → (R → R) → List R → ℕ → List R
altered f [] i = []
altered f (r ∷ rs) zero = f r ∷ rs
altered f (r ∷ rs) (suc i) = r ∷ altered f rs i

-- the row of the scope changed
abbrev pub with_scope : RowTable → ℕ → (ScopeRow → ScopeRow) → RowTable
with_scope t s f = record t { scopes = altered f t.scopes (place_of t.scopes_before s) }

-- ---- the innermost scope of an actor

abbrev pub main_with : RowTable → ℕ → Option ℕ → Option ℕ
main_with t a i = if a == 0 then i else t.main_innermost

abbrev pub with_inner : Option ℕ → TaskRow → TaskRow
with_inner i r = record r { innermost = unwrap_or i 0 }

abbrev pub tasks_with : RowTable → ℕ → Option ℕ → List TaskRow
tasks_with t a i = if a == 0 then t.tasks else altered (with_inner i) t.tasks (place_of t.tasks_before a)

-- the actor's innermost scope is this one
abbrev pub with_innermost : RowTable → ℕ → Option ℕ → RowTable
with_innermost t a i = record t { main_innermost = main_with t a i; tasks = tasks_with t a i }

-- ---- scopes

abbrev pub no_counts : Counts
no_counts = record { never = 0; waiting = 0; running = 0; finished = 0 }

abbrev pub new_scope_row : Opening → Option ℕ → Option ℕ → ℕ → ScopeRow
new_scope_row o parent below height = record { opening = o; parent = parent; below = below; height = height; joined = None; closing = false; closed = false; violated = false; counts = no_counts }

-- the scope has the next number, and is its actor's innermost
abbrev pub opened : RowTable → Opening → Option ℕ → ℕ → RowTable
opened t o parent height =
    with_innermost (record t { scopes = t.scopes ++ new_scope_row o parent (innermost_of t o.actor) height ∷ []; scope_room = t.scope_room - 1 }) o.actor (Some (t.scopes_before + length t.scopes + 1))

abbrev pub joined_row : ℕ → ScopeRow → ScopeRow
joined_row place r = record r { joined = Some place }

abbrev pub joined : RowTable → ℕ → ℕ → RowTable
joined t s place = with_scope t s (joined_row place)

-- what the owner had innermost when it opened the scope
abbrev pub below_of : ℕ → List ScopeRow → ℕ → Option ℕ
below_of before rows s = option_and_then (λ r. r.below) (row_of before rows s)

abbrev pub closing_row : ScopeRow → ScopeRow
closing_row r = record r { closing = true }

-- where the walk goes on, which ends at scope s
abbrev pub onward_from : ℕ → ℕ → List ScopeRow → ℕ → Option ℕ
onward_from before s rows here = if here == s then None else below_of before rows here

-- at most n scopes are marked: those from `next` down to s, each opened below the one before it
abbrev pub marked_within : ℕ → ℕ → ℕ → Option ℕ → List ScopeRow → List ScopeRow
marked_within zero before s next rows = rows
marked_within (suc n) before s None rows = rows
marked_within (suc n) before s (Some here) rows = marked_within n before s (onward_from before s rows here) (altered closing_row rows (place_of before here))

-- a scope has at most its number of scopes below it
abbrev pub walk_length : Option ℕ → ℕ
walk_length None = 0
walk_length (Some n) = n + 1

unfoldable pub marked : ℕ → ℕ → Option ℕ → List ScopeRow → List ScopeRow
marked before s next rows = marked_within (walk_length next) before s next rows

abbrev pub is_this : Option ℕ → ℕ → Bool
is_this i s = option_map_or (λ n. n == s) i false

abbrev pub violated_row : Bool → ScopeRow → ScopeRow
violated_row out_of_order r = record r { violated = r.violated || out_of_order }

-- the scopes from the actor's innermost down to s are closing, and s is violated if it isn't that
abbrev pub close_begun : RowTable → ℕ → ℕ → RowTable
close_begun t a s =
    record t { scopes = altered (violated_row (not (is_this (innermost_of t a) s))) (marked t.scopes_before s (innermost_of t a) t.scopes) (place_of t.scopes_before s) }

abbrev pub closed_row : ScopeRow → ScopeRow
closed_row r = record r { closed = true }

-- the scope is closed, and the actor's innermost is the one below it
abbrev pub close_ended : RowTable → ℕ → ℕ → RowTable
close_ended t a s = with_innermost (with_scope t s closed_row) a (below_of t.scopes_before t.scopes s)

-- ---- tasks

abbrev pub recount : (Counts → Counts) → ScopeRow → ScopeRow
recount g r = record r { counts = g r.counts }

abbrev pub count_fork : Bool → Counts → Counts
count_fork cancelled c = if cancelled then record c { never = c.never + 1 } else record c { waiting = c.waiting + 1 }

-- a task that waited is at this stage: it runs, or never does
abbrev pub count_taken : Stage → Counts → Counts
count_taken Running c = record c { waiting = c.waiting - 1; running = c.running + 1 }
count_taken _ c = record c { waiting = c.waiting - 1; never = c.never + 1 }

abbrev pub count_finish : Counts → Counts
count_finish c = record c { running = c.running - 1; finished = c.finished + 1 }

-- a task that was forked in scope s by the event at the place: it never runs if the scope is cancelled
abbrev pub new_task_row : ℕ → ℕ → Bool → TaskRow
new_task_row s place cancelled = record { scope = s; place = place; innermost = 0; stage = if cancelled then Never else Waiting; state = Unavailable }

-- the task has the next number
abbrev pub forked : RowTable → ℕ → ℕ → Bool → RowTable
forked t s place cancelled =
    record t { tasks = t.tasks ++ new_task_row s place cancelled ∷ []; task_room = t.task_room - 1; scopes = altered (recount (count_fork cancelled)) t.scopes (place_of t.scopes_before s) }

-- the task's row is changed, and the counts of its scope
abbrev pub moved : RowTable → ℕ → (TaskRow → TaskRow) → (Counts → Counts) → RowTable
moved t k f g =
    record t { tasks = altered f t.tasks (place_of t.tasks_before k); scopes = altered (recount g) t.scopes (place_of t.scopes_before (scope_of t k)) }

abbrev pub stage_row : Stage → TaskRow → TaskRow
stage_row x r = record r { stage = x }

abbrev pub taken : RowTable → ℕ → Stage → RowTable
taken t k x = moved t k (stage_row x) (count_taken x)

abbrev pub rejected : RowTable → ℕ → RowTable
rejected t k = taken t k Never

abbrev pub started : RowTable → ℕ → RowTable
started t k = taken t k Running

-- what can be read of a task that ends so: nothing, if its scope is cancelled
abbrev pub state_at_end : Bool → EndValue → State
state_at_end cancelled end = if cancelled then Unavailable else state_by_end end

abbrev pub ended_row : State → TaskRow → TaskRow
ended_row x r = record r { stage = Finished; state = x }

abbrev pub finished : RowTable → ℕ → EndValue → Bool → RowTable
finished t k end cancelled = moved t k (ended_row (state_at_end cancelled end)) count_finish

-- ---- a new base

-- no rows, and room for as many as there was and were
abbrev pub restarted : RowTable → ℕ → ℕ → RowTable
restarted t scopes_before tasks_before =
    record { scopes_before = scopes_before; tasks_before = tasks_before; main_innermost = None; scopes = []; tasks = []; scope_room = t.scope_room + length t.scopes; task_room = t.task_room + length t.tasks }

-- What is written into the rows is what a step makes of them.
use Rattle.std.proofs.Common.{[], ℕ, ◌++◌, ◌+◌, ◌-◌, ◌==◌, ◌∙◌, ◌∷◌, ◌≡◌, Bool, Option, Some, ap, cond, false, get_or, length, subst, sym, unwrap_or}
use Rattle.scope_rows.specs.{Counts, HasScope, HasTask, Opening, RowTable, ScopeRow, TaskRow, altered, below_of, count_fork, forked, innermost_of, moved, new_scope_row, new_task_row, opened, option_and_then, option_map_or}
use Rattle.scope_rows.specs.{place_of, recount, scope_of, with_inner, with_innermost, with_scope}
use Rattle.scope_rows.proofs.{Altering.altered_read, Places.number_read}

-- a row of a scope, changed
pub scope_written : (f : ScopeRow → ScopeRow) (v t : RowTable) (s : ℕ) (row : ScopeRow) → v ≡ t → row ≡ get_or v.scopes (place_of v.scopes_before s) row → record v { scopes = altered (λ old. f row) v.scopes (place_of v.scopes_before s) } ≡ with_scope t s f
scope_written f v t s row same read =
    ap (λ rows. record v { scopes = rows }) (altered_read f v.scopes (place_of v.scopes_before s) row read) ∙ ap (λ (u : RowTable). with_scope u s f) same

-- the row of a task and the counts of its scope, changed
pub move_written : (f : TaskRow → TaskRow) (g : Counts → Counts) (v t : RowTable) (k : ℕ) (row : TaskRow) (scope : ScopeRow) (n : Counts) → v ≡ t → HasTask t k
    → row ≡ get_or v.tasks (place_of v.tasks_before k) row → scope ≡ get_or v.scopes (place_of v.scopes_before row.scope) scope → n ≡ g scope.counts
    → record v { tasks = altered (λ old. f row) v.tasks (place_of v.tasks_before k); scopes = altered (λ old. record scope { counts = n }) v.scopes (place_of v.scopes_before row.scope) } ≡ moved t k f g
move_written f g v t k row scope n same has is_row is_scope counted =
    let found = number_read v.tasks_before v.tasks k row (subst (λ (u : RowTable). HasTask u k) (sym same) has) is_row in
    let of : row.scope ≡ scope_of v k = sym (ap (λ (o : Option TaskRow). option_map_or (λ (r : TaskRow). r.scope) o 0) found) in
    ap (λ (m : Counts). record v { tasks = altered (λ old. f row) v.tasks (place_of v.tasks_before k); scopes = altered (λ old. record scope { counts = m }) v.scopes (place_of v.scopes_before row.scope) }) counted
    ∙ (ap (λ rows. record v { tasks = rows; scopes = altered (λ old. recount g scope) v.scopes (place_of v.scopes_before row.scope) }) (altered_read f v.tasks (place_of v.tasks_before k) row is_row)
    ∙ (ap (λ rows. record v { tasks = altered f v.tasks (place_of v.tasks_before k); scopes = rows }) (altered_read (recount g) v.scopes (place_of v.scopes_before row.scope) scope is_scope)
    ∙ (ap (λ s. record v { tasks = altered f v.tasks (place_of v.tasks_before k); scopes = altered (recount g) v.scopes (place_of v.scopes_before s) }) of ∙ ap (λ (u : RowTable). moved u k f g) same)))

-- what is read below the scope
pub below_read : (v t : RowTable) (s : ℕ) (row : ScopeRow) → v ≡ t → HasScope t s → row ≡ get_or v.scopes (place_of v.scopes_before s) row → row.below ≡ below_of t.scopes_before t.scopes s
below_read v t s row same has read =
    sym (ap (option_and_then (λ (r : ScopeRow). r.below)) (number_read v.scopes_before v.scopes s row (subst (λ (u : RowTable). HasScope u s) (sym same) has) read))
    ∙ ap (λ (u : RowTable). below_of u.scopes_before u.scopes s) same

-- the row of a new scope, which is its actor's innermost
pub open_written : (v t : RowTable) (o : Opening) (parent below : Option ℕ) (height last : ℕ) → v ≡ t → below ≡ innermost_of t o.actor → last ≡ t.scopes_before + length t.scopes
    → with_innermost (record v { scopes = v.scopes ++ new_scope_row o parent below height ∷ []; scope_room = v.scope_room - 1 }) o.actor (Some (last + 1)) ≡ opened t o parent height
open_written v t o parent below height last same is_below is_last =
    ap (λ b. with_innermost (record v { scopes = v.scopes ++ new_scope_row o parent b height ∷ []; scope_room = v.scope_room - 1 }) o.actor (Some (last + 1))) is_below
    ∙ (ap (λ n. with_innermost (record v { scopes = v.scopes ++ new_scope_row o parent (innermost_of t o.actor) height ∷ []; scope_room = v.scope_room - 1 }) o.actor (Some (n + 1))) is_last
    ∙ ap (λ (u : RowTable). with_innermost (record u { scopes = u.scopes ++ new_scope_row o parent (innermost_of t o.actor) height ∷ []; scope_room = u.scope_room - 1 }) o.actor (Some (t.scopes_before + length t.scopes + 1))) same)

-- the row of a new task, and the counts of its scope
pub fork_written : (v t : RowTable) (s place : ℕ) (cancelled : Bool) (scope : ScopeRow) (n : Counts) (row : TaskRow) → v ≡ t → scope ≡ get_or v.scopes (place_of v.scopes_before s) scope → n ≡ count_fork cancelled scope.counts → row ≡ new_task_row s place cancelled
    → record v { scopes = altered (λ old. record scope { counts = n }) v.scopes (place_of v.scopes_before s); tasks = v.tasks ++ row ∷ []; task_room = v.task_room - 1 } ≡ forked t s place cancelled
fork_written v t s place cancelled scope n row same read counted is_new =
    ap (λ (r : TaskRow). record v { scopes = altered (λ old. record scope { counts = n }) v.scopes (place_of v.scopes_before s); tasks = v.tasks ++ r ∷ []; task_room = v.task_room - 1 }) is_new
    ∙ (ap (λ (m : Counts). record v { scopes = altered (λ old. record scope { counts = m }) v.scopes (place_of v.scopes_before s); tasks = v.tasks ++ new_task_row s place cancelled ∷ []; task_room = v.task_room - 1 }) counted
    ∙ (ap (λ xs. record v { scopes = xs; tasks = v.tasks ++ new_task_row s place cancelled ∷ []; task_room = v.task_room - 1 }) (altered_read (recount (count_fork cancelled)) v.scopes (place_of v.scopes_before s) scope read)
    ∙ ap (λ (u : RowTable). forked u s place cancelled) same))

-- ---- the innermost scope of a task

-- the row of a task, with another innermost scope
pub inner_written : (v t : RowTable) (a : ℕ) (row : TaskRow) (i : Option ℕ) (n : ℕ) → v ≡ t → (a == 0) ≡ false → row ≡ get_or v.tasks (place_of v.tasks_before a) row → n ≡ unwrap_or i 0
    → record v { tasks = altered (λ old. record row { innermost = n }) v.tasks (place_of v.tasks_before a) } ≡ with_innermost t a i
inner_written v t a row i n same other read number =
    ap (λ m. record v { tasks = altered (λ old. record row { innermost = m }) v.tasks (place_of v.tasks_before a) }) number
    ∙ (ap (λ rows. record v { tasks = rows }) (altered_read (with_inner i) v.tasks (place_of v.tasks_before a) row read)
    ∙ (ap (λ (u : RowTable). record u { tasks = altered (with_inner i) u.tasks (place_of u.tasks_before a) }) same
    ∙ ap (λ b. record t { main_innermost = cond b i t.main_innermost; tasks = cond b t.tasks (altered (with_inner i) t.tasks (place_of t.tasks_before a)) }) (sym other)))

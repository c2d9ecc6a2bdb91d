-- The tree of the scopes that are not closed, as JSON. With a clock each scope has a member more, and each task has three.
use Rattle.tree_dump.specs.Terms.{ℕ, Data, History, Items, List, None, Option, TaskTold, codes, compact_text, info, inner, items_of, label, map, member, moment, no_members, null, number, object, option_map, option_map_or}
use Rattle.tree_dump.specs.Terms.{outermost, stage, state, suc, tasks_of, unsigned, zero}
use Rattle.tree_dump.specs.{Ages.Clock, Ages.scope_since, Ages.task_times, Objects.scope_object, Objects.task_object}

-- what there is to say of task k, if it was forked since the base
unfoldable pub task_told : History → ℕ → Option TaskTold
task_told h k = option_map (λ l. record { task = k; label = l; stage = stage h k; state = state h k; inner = outermost h k }) (label h k)

-- task k, with what `inside` tells of the scope inside it
abbrev pub task_shown : Option Clock → History → (Option ℕ → Data) → ℕ → Data
task_shown by h inside k = option_map_or (λ told. task_object told (option_map (λ c. task_times c h told.task told.stage) by) (inside told.inner)) (task_told h k) null

-- the tasks of scope s, in fork order
abbrev pub tasks_shown : Option Clock → History → (Option ℕ → Data) → ℕ → Items
tasks_shown by h inside s = items_of (map (task_shown by h inside) (tasks_of h s))

-- scope s, with what `inside` tells of the scopes inside it and inside its tasks
abbrev pub scope_shown : Option Clock → History → (Option ℕ → Data) → ℕ → Data
scope_shown by h inside s = option_map_or (λ i. scope_object i (option_map (λ c. scope_since c h i.scope) by) (inside (inner h s)) (tasks_shown by h inside s)) (info h s) null

-- what stands where a scope may lie, down to so many levels of scopes
unfoldable pub nested : Option Clock → History → ℕ → Option ℕ → Data
nested by h zero place = null
nested by h (suc levels) place = option_map_or (scope_shown by h (nested by h levels)) place null

-- how many levels of scopes there can be
abbrev pub levels : ℕ
levels = 16

-- the tree: the moment, and main's outermost scope
abbrev pub dump_data : History → Data
dump_data h =
    object (member (codes "moment") (number (unsigned (moment h)))
    (member (codes "root") (nested None h levels (outermost h 0)) no_members))

-- what a dump of the history is
unfoldable pub dump_text : History → List ℕ
dump_text h = compact_text (dump_data h)

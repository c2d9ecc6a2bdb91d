-- What a scope's line in a tree says of its tasks.
use Rattle.std.specs.Prelude.{ℕ, ◌++◌, ◌≡◌, codes, count_by, length}
use Rattle.tree_dump.specs.Terms.{History, counts, decimal, is_unsettled, task_numbers, tasks_of}
use Rattle.tree_dump.specs.TextLines.{awaits_text}

-- a scope awaits just those of its tasks that wait or run, of all that were forked in it
abbrev pub TreeAwaits : Type 0
TreeAwaits = (h : History) (s : ℕ) → awaits_text (counts h s) ≡ codes ", awaits " ++ decimal (count_by (is_unsettled h s) (task_numbers h)) ++ codes " of " ++ decimal (length (tasks_of h s))

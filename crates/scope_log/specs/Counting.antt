-- A count of tasks, one task more.
use Rattle.std.specs.Prelude.{ℕ, ◌+◌}
use Rattle.scope_log.specs.Words.{Counts, Finished, Never, Running, Stage, Waiting}

-- how many tasks are counted
abbrev pub total : Counts → ℕ
total c = ((c.never + c.waiting) + c.running) + c.finished

-- one task more, at the stage
abbrev pub counted : Counts → Stage → Counts
counted c Never = record c { never = c.never + 1 }
counted c Waiting = record c { waiting = c.waiting + 1 }
counted c Running = record c { running = c.running + 1 }
counted c Finished = record c { finished = c.finished + 1 }

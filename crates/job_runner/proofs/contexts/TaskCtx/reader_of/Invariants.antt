-- No scope before the index has the number.
use Rattle.job_runner.specs.{IsUnlisted}
use Rattle.job_runner.proofs.Words.{take}
use Rattle.job_runner.proofs.contexts.TaskCtx.reader_of.Given as goal

abbrev pub invariant-loop-open : goal.invariant-loop-open
invariant-loop-open g l = IsUnlisted l.scope (take l.open-index l.fn.self.opened.items)

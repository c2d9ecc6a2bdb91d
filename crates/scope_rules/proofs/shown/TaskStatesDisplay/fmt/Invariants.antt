-- The tasks before the index were written.
use Rattle.scope_rules.specs.{HasWritten, IsPlainFormatter, states_text}
use Rattle.scope_rules.proofs.Words.{take}
use Rattle.scope_rules.proofs.shown.TaskStatesDisplay.fmt.Given as goal

abbrev pub invariant-loop-task : goal.invariant-loop-task
invariant-loop-task g l =
    IsPlainFormatter l.fn.f → HasWritten g.W.Write.write_str_gives l.fn.f (states_text (take l.task-index l.self)) l.f

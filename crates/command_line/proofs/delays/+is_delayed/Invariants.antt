use Rattle.command_line.proofs.Words.{length}
use Rattle.command_line.proofs.delays.+is_delayed.Given as goal

abbrev pub decreases-is_delayed : goal.decreases-is_delayed
decreases-is_delayed l = length l.delays.now

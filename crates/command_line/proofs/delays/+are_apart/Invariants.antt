use Rattle.command_line.proofs.Words.{length}
use Rattle.command_line.proofs.delays.+are_apart.Given as goal

abbrev pub decreases-are_apart : goal.decreases-are_apart
decreases-are_apart l = length l.delays.now

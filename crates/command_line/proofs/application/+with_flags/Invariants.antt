use Rattle.command_line.proofs.Words.{length}
use Rattle.command_line.proofs.application.+with_flags.Given as goal

abbrev pub decreases-with_flags : goal.decreases-with_flags
decreases-with_flags l = length l.flags.now

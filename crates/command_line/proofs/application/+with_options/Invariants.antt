use Rattle.command_line.proofs.Words.{length}
use Rattle.command_line.proofs.application.+with_options.Given as goal

abbrev pub decreases-with_options : goal.decreases-with_options
decreases-with_options l = length l.settings.now

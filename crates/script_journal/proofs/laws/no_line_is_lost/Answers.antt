use Rattle.script_journal.proofs.PlayedLines.{no_line_is_lost}
use Rattle.script_journal.proofs.laws.no_line_is_lost.Goals as goal

pub returns : goal.returns
returns c = no_line_is_lost

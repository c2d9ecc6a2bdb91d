use Rattle.script_words.proofs.PrintableLines.{lines_are_printable}
use Rattle.script_words.proofs.reply_laws.lines_are_printable.Goals as goal

pub returns : goal.returns
returns c = lines_are_printable

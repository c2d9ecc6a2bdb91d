-- What is found by a name is what its row has.
use Rattle.command_line.specs.{found_of}
use Rattle.command_line.proofs.Words.{◌∙◌, first_value-rows}
use Rattle.command_line.proofs.settings.text_of.Goals as goal

pub returns : goal.returns
returns c = c.get_str.ensures ∙ first_value-rows (found_of c.args.matches.now) c.args.name.now

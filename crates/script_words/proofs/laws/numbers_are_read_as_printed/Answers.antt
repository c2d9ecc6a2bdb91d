use Rattle.script_words.proofs.Printed.{printed_number_is_read, read_number_is_printed}
use Rattle.script_words.proofs.laws.numbers_are_read_as_printed.Goals as goal

pub returns-clause-printed : goal.returns-clause-printed
returns-clause-printed c = printed_number_is_read

pub returns-clause-read : goal.returns-clause-read
returns-clause-read c = read_number_is_printed

use Rattle.script_words.proofs.PrintedIntegers.{printed_integer_is_read, read_integer_is_printed}
use Rattle.script_words.proofs.laws.integers_are_read_as_printed.Goals as goal

pub returns-clause-printed : goal.returns-clause-printed
returns-clause-printed c = printed_integer_is_read

pub returns-clause-read : goal.returns-clause-read
returns-clause-read c = read_integer_is_printed

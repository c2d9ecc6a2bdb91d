use Rattle.script_words.proofs.{SpelledCommands.words_say_the_command, SpelledLines.line_says_the_command}
use Rattle.script_words.proofs.laws.line_says_the_command.Goals as goal

pub returns-clause-words : goal.returns-clause-words
returns-clause-words c = words_say_the_command

pub returns-clause-line : goal.returns-clause-line
returns-clause-line c = line_says_the_command

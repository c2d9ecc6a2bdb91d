-- The word stands in the table of its length, or in none.
use Rattle.script_words.proofs.Lemmas.{◌∙◌}
use Rattle.script_words.proofs.KeywordLengths.{said_by_length}
use Rattle.script_words.proofs.keywords.keyword_of.Goals as goal

pub returns-in-2 : goal.returns-in-2
returns-in-2 c = c.keyword_beside.ensures ∙ said_by_length c.args.word.now 2 c.in-2.is

pub returns-in-3 : goal.returns-in-3
returns-in-3 c = c.keyword_beside-in-3.ensures ∙ said_by_length c.args.word.now 3 c.in-3.is

pub returns-in-4 : goal.returns-in-4
returns-in-4 c = c.keyword_beside-in-4.ensures ∙ said_by_length c.args.word.now 4 c.in-4.is

pub returns-in-5 : goal.returns-in-5
returns-in-5 c = c.keyword_beside-in-5.ensures ∙ said_by_length c.args.word.now 5 c.in-5.is

pub returns-in-6 : goal.returns-in-6
returns-in-6 c = c.keyword_beside-in-6.ensures ∙ said_by_length c.args.word.now 6 c.in-6.is

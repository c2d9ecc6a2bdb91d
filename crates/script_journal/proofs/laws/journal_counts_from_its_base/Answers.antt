use Rattle.script_journal.proofs.{RaisedLegal.numbers_decide_nothing, Renumbered.brings_anew, Renumbered.counts_anew}
use Rattle.script_journal.proofs.laws.journal_counts_from_its_base.Goals as goal

pub returns-clause-legal : goal.returns-clause-legal
returns-clause-legal c = numbers_decide_nothing

pub returns-clause-counts : goal.returns-clause-counts
returns-clause-counts c = counts_anew

pub returns-clause-brings : goal.returns-clause-brings
returns-clause-brings c = brings_anew

use Rattle.script_journal.proofs.{Again.journal_stays, Again.journal_tells_all, Running.journal_is_a_script}
use Rattle.script_journal.proofs.laws.journal_is_a_script.Goals as goal

pub returns-clause-runs : goal.returns-clause-runs
returns-clause-runs c = journal_is_a_script

pub returns-clause-again : goal.returns-clause-again
returns-clause-again c = journal_stays

pub returns-clause-tells : goal.returns-clause-tells
returns-clause-tells c = journal_tells_all

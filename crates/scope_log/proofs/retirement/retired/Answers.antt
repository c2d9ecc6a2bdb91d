use Rattle.scope_log.proofs.Alike.{answers_alike, leaves_the_base, retired_again}
use Rattle.scope_log.proofs.retirement.retired.Goals as goal

pub returns-clause-answers : goal.returns-clause-answers
returns-clause-answers c = answers_alike

pub returns-clause-again : goal.returns-clause-again
returns-clause-again c = retired_again

pub returns-clause-base : goal.returns-clause-base
returns-clause-base c = leaves_the_base

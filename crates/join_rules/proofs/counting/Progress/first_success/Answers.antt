-- The kept totals are those of every list that the progress stands for.
use Rattle.join_rules.proofs.Words.{◌∙◌}
use Rattle.join_rules.proofs.StandingLemmas.{are_listed}
use Rattle.join_rules.proofs.counting.Progress.first_success.Goals as goal

pub returns-clause-listed : goal.returns-clause-listed
returns-clause-listed g c = λ list stands. c.first_success.ensures ∙ (are_listed _ list stands).first_success

-- The name is that of the seed's table.
use Rattle.runner_tests.proofs.jobs.spawners.two_thousand_rounds.Given as goal

abbrev pub ghosts-over_a_crew : goal.ghosts-over_a_crew
ghosts-over_a_crew g a = record { table = a.seed }

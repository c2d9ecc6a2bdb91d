-- The name is that of the seed's table.
use Rattle.runner_tests.proofs.jobs.spawners.two_jobs_see_each_other.Given as goal

abbrev pub ghosts-over_a_pool : goal.ghosts-over_a_pool
ghosts-over_a_pool g a = record { table = a.seed }

abbrev pub ghosts-over_one_thread : goal.ghosts-over_one_thread
ghosts-over_one_thread g a = record { table = a.seed }

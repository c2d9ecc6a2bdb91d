-- The name is that of the seed's table.
use Rattle.runner_tests.proofs.jobs.spawners.rows_over_a_pool.Given as goal

abbrev pub ghosts-over_a_pool : goal.ghosts-over_a_pool
ghosts-over_a_pool g a = record { table = a.seed }

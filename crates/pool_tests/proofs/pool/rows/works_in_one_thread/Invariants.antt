-- The name is that of the seed's table.
use Rattle.pool_tests.proofs.pool.rows.works_in_one_thread.Given as goal

abbrev pub ghosts-in_one_thread : goal.ghosts-in_one_thread
ghosts-in_one_thread g a = record { table = a.seed }

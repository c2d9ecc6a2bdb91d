-- The name is that of the seed's table.
use Rattle.pool_tests.proofs.pool.rows.a_closing_pool_answers_a_fork_that_waits_for_a_thread.Given as goal

abbrev pub ghosts-on_a_pool : goal.ghosts-on_a_pool
ghosts-on_a_pool g a = record { table = a.seed }

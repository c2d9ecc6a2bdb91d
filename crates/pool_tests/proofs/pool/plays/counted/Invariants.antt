-- The realm's name is that of the seed's table.
use Rattle.pool_tests.proofs.pool.plays.counted.Given as goal

abbrev pub ghosts-on_a_pool : goal.ghosts-on_a_pool
ghosts-on_a_pool g a = record { table = a.seed }

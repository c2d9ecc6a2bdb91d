-- The name is that of the seed's table.
use Rattle.gateway_tests.proofs.gateway.deadlines.prices_that_are_there_are_answered_at_any_time.Given as goal

abbrev pub ghosts-over_one_thread : goal.ghosts-over_one_thread
ghosts-over_one_thread g a = record { table = a.seed }

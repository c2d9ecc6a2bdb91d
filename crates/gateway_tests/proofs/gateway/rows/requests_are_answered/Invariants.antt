-- The name is that of the seed's table.
use Rattle.gateway_tests.proofs.gateway.rows.requests_are_answered.Given as goal

abbrev pub ghosts-over_a_pool : goal.ghosts-over_a_pool
ghosts-over_a_pool g a = record { table = a.seed }

-- The name is that of the seed's table.
use Rattle.gateway_tests.proofs.gateway.deadlines.a_request_by_a_deadline_closes_by_its_clock.Given as goal

abbrev pub ghosts-over_a_pool : goal.ghosts-over_a_pool
ghosts-over_a_pool g a = record { table = a.seed }

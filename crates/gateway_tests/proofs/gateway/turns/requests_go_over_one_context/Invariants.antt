-- The name is that of the seed's table.
use Rattle.gateway_tests.proofs.gateway.turns.requests_go_over_one_context.Given as goal

abbrev pub ghosts-over_a_crew : goal.ghosts-over_a_crew
ghosts-over_a_crew g a = record { table = a.seed }

-- The name is that of the seed's table.
use Rattle.service_tests.proofs.requests.a_scope_is_closed_once.Given as goal

abbrev pub ghosts-one_request : goal.ghosts-one_request
ghosts-one_request g a = record { table = a.seed }

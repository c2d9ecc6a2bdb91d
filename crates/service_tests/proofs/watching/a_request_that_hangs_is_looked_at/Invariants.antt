-- The name is that of the seed's table.
use Rattle.service_tests.proofs.watching.a_request_that_hangs_is_looked_at.Given as goal

abbrev pub ghosts-watched : goal.ghosts-watched
ghosts-watched g a = record { table = a.seed }

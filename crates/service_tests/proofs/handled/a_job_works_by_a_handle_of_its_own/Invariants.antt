-- The name is that of the seed's table.
use Rattle.service_tests.proofs.handled.a_job_works_by_a_handle_of_its_own.Given as goal

abbrev pub ghosts-served : goal.ghosts-served
ghosts-served g a = record { table = a.seed }

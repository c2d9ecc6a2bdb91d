-- The name is that of the seed's table.
use Rattle.service_tests.proofs.requests.each_form_serves_its_request_or_its_time_runs_out.Given as goal

abbrev pub ghosts-one_request : goal.ghosts-one_request
ghosts-one_request g a = record { table = a.seed }

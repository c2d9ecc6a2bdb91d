-- The name is that of the seed's table.
use Rattle.service_tests.proofs.kinds.a_slot_gives_its_own_jobs_value_once_after_the_join.Given as goal

abbrev pub ghosts-looked : goal.ghosts-looked
ghosts-looked g a = record { table = a.seed }

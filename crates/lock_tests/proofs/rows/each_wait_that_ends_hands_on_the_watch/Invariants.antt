-- The realm's name is the seed's table.
use Rattle.lock_tests.proofs.rows.each_wait_that_ends_hands_on_the_watch.Given as goal

abbrev pub ghosts-check : goal.ghosts-check
ghosts-check g a = record { table = a.seed }

-- The realm's name is that of the seed's table.
use Rattle.gateway_tests.proofs.clocks.requests.all_kept.Given as goal

abbrev pub ghosts-are_kept : goal.ghosts-are_kept
ghosts-are_kept g a = record { table = a.seed }

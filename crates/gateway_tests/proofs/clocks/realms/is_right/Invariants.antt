-- The realm's name is that of the seed's table.
use Rattle.gateway_tests.proofs.clocks.realms.is_right.Given as goal

abbrev pub ghosts-in_realm : goal.ghosts-in_realm
ghosts-in_realm g a = record { table = a.seed }

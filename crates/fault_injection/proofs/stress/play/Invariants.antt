-- The realm's name is that of the seed's table.
use Rattle.fault_injection.proofs.stress.play.Given as goal

abbrev pub ghosts-realm : goal.ghosts-realm
ghosts-realm g a = record { table = a.seed }

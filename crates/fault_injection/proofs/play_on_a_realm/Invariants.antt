-- The realm's name is that of the seed's table.
use Rattle.fault_injection.proofs.play_on_a_realm.Given as goal

abbrev pub ghosts-on_a_realm : goal.ghosts-on_a_realm
ghosts-on_a_realm g a = record { table = a.seed }

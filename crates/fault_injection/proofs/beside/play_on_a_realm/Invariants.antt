-- The realm's name is that of the seed's table.
use Rattle.fault_injection.proofs.beside.play_on_a_realm.Given as goal

abbrev pub ghosts-play : goal.ghosts-play
ghosts-play g a = record { table = a.seed }

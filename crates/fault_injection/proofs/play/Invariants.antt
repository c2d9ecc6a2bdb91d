-- Each realm's name is that of the seed's table.
use Rattle.fault_injection.proofs.play.Given as goal

abbrev pub ghosts-play : goal.ghosts-play
ghosts-play g a = record { table = a.seed }

abbrev pub ghosts-play-2 : goal.ghosts-play-2
ghosts-play-2 g a = record { table = a.seed }

abbrev pub ghosts-close_with_a_ticket : goal.ghosts-close_with_a_ticket
ghosts-close_with_a_ticket g a = record { table = a.seed }

abbrev pub ghosts-play-3 : goal.ghosts-play-3
ghosts-play-3 g a = record { table = a.seed }

-- The realm's name is that of the seed's table.
use Rattle.scopectl.proofs.threads.act_on.Given as goal

abbrev pub ghosts-act_with_pool : goal.ghosts-act_with_pool
ghosts-act_with_pool g a = record { table = a.seed }

abbrev pub ghosts-act_alone : goal.ghosts-act_alone
ghosts-act_alone g a = record { table = a.seed }

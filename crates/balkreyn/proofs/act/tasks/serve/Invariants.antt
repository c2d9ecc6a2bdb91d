-- The name is that of the seed's table.
use Rattle.balkreyn.proofs.act.tasks.serve.Given as goal

abbrev pub ghosts-serve_named : goal.ghosts-serve_named
ghosts-serve_named g a = record { table = a.seed }

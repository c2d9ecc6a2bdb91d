-- The names are those of the two seeds' tables.
use Rattle.balkreyn.proofs.act.rotation.serve_requests.Given as goal

abbrev pub ghosts-serve_in_turn-A-RealmName : goal.ghosts-serve_in_turn-A-RealmName
ghosts-serve_in_turn-A-RealmName g a = record { table = a.seeds.0 }

abbrev pub ghosts-serve_in_turn-B-RealmName : goal.ghosts-serve_in_turn-B-RealmName
ghosts-serve_in_turn-B-RealmName g a = record { table = a.seeds.1 }

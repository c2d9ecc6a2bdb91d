-- A round leaves the token one of this realm.
use Rattle.std.proofs.Common.{◌≡◌}
use Rattle.lock_tests.proofs.threads.ten_rounds.Given as goal

abbrev pub invariant-loop-round : goal.invariant-loop-round
invariant-loop-round g l = l.main.table ≡ g.N.RealmName.table

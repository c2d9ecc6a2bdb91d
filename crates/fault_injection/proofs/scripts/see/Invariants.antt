-- A look leaves the token main's of this realm.
use Rattle.std.proofs.Common.{◌≡◌}
use Rattle.fault_injection.proofs.scripts.see.Given as goal

abbrev pub invariant-loop-scope : goal.invariant-loop-scope
invariant-loop-scope g l = l.main ≡ record l.fn.main { seen = l.main.seen }

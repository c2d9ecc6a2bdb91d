-- What came before the rest was written.
use Rattle.std.proofs.Common.{ℕ, ◌++◌, ◌≡◌, List, length}
use Rattle.scope_script.specs.{Appends}
use Rattle.scope_script.proofs.streams.watched.Watched.write_bytes.Given as goal

abbrev pub decreases-loop-rest : goal.decreases-loop-rest
decreases-loop-rest g l = length l.rest

abbrev pub invariant-loop-rest : goal.invariant-loop-rest
invariant-loop-rest g l = (done : List ℕ) × (l.fn.bytes ≡ done ++ l.rest) × Appends (g.W.Write.contents l.fn.self.inner) (g.W.Write.contents l.self.inner) done × (l.self.failed ≡ l.fn.self.failed)

-- The stack has the pairs so far.
use Rattle.std.proofs.Common.{◌≡◌, take}
use Rattle.scoped_env.proofs.stack.PairStack.of.Given as goal

abbrev pub invariant-loop-pair : goal.invariant-loop-pair
invariant-loop-pair l = l.stack ≡ take l.pair-index l.pairs

-- The index has the values by the pairs so far.
use Rattle.scoped_env.specs.{HasLatest}
use Rattle.scoped_env.proofs.Words.{take}
use Rattle.scoped_env.proofs.keys.latest_of.Given as goal

abbrev pub invariant-loop-pair : goal.invariant-loop-pair
invariant-loop-pair l = HasLatest l.latest (take l.pair-index l.pairs)

-- No pairs, and no entries.
use Rattle.scoped_env.proofs.Indexing.{indexed_none}
use Rattle.scoped_env.proofs.stack.PairStack.new.Goals as goal

pub invariant_of-result : goal.invariant_of-result
invariant_of-result c =
    rw c.new.ensures.items (rw c.new-3.ensures.items (indexed_none c.new-2.result c.new-2.ensures.empty))

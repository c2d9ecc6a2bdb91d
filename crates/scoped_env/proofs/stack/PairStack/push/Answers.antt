-- A pair among the first is not indexed, and one behind them is.
use Rattle.scoped_env.specs.{IsIndexed}
use Rattle.scoped_env.proofs.Words.{Some, arith, subst, sym}
use Rattle.scoped_env.proofs.Indexing.{few_more, many_more, writes_of}
use Rattle.scoped_env.proofs.stack.PairStack.push.Goals as goal

pub invariant_of-self-then-len-lt-FEW : goal.invariant_of-self-then-len-lt-FEW
invariant_of-self-then-len-lt-FEW c =
    subst (λ ps. IsIndexed ps c.self.inside.latest c.self.inside.earlier.items) (sym c.in_ok-push.ensures.items)
    (few_more c.self.inside.pairs.items c.args.pair c.self.inside.latest c.self.inside.earlier.items (omega (arith, c.len.ensures, c.if-len-lt-FEW.true)) c.self.invariant)

pub invariant_of-self-2 : goal.invariant_of-self-2
invariant_of-self-2 c =
    rw c.push_reserved-2.ensures.items (rw c.push_reserved.ensures.items (rw c.reserve.ensures.items (rw c.reserve-2.ensures.items
    (many_more c.self.inside.pairs.items c.args.pair c.self.inside.latest c.insert.new.self c.self.inside.earlier.items c.in_ok-earlier.earlier
    (omega (arith, c.len.ensures, c.if-len-lt-FEW.false)) c.self.invariant c.in_ok-earlier.ensures.old
    (writes_of c.self.inside.latest c.insert.new.self c.args.pair.key (Some c.args.pair.value) c.in_ok-earlier.ensures.updates.0)))))

-- The last pair's key has what it had before.
use Rattle.scoped_env.proofs.Indexing.{last_bound, many_less, popped}
use Rattle.scoped_env.proofs.stack.PairStack.pop.Goals as goal

pub put_back-requires : goal.put_back-requires
put_back-requires c =
    last_bound c.pop.new.self.items c.in-Some.pair c.self.inside.latest c.pop-2.new.self.items c.in-Some-pop.earlier
    (popped c.self.inside.pairs.items c.pop.new.self.items c.in-Some.pair c.self.inside.latest c.self.inside.earlier.items c.pop-2.new.self.items c.in-Some-pop.earlier
    c.in-Some.ensures.items c.in-Some-pop.ensures.items c.self.invariant)

pub invariant_of-self-in-Some-pop : goal.invariant_of-self-in-Some-pop
invariant_of-self-in-Some-pop c =
    many_less c.pop.new.self.items c.in-Some.pair c.self.inside.latest c.pop-2.new.self.items c.in-Some-pop.earlier
    (popped c.self.inside.pairs.items c.pop.new.self.items c.in-Some.pair c.self.inside.latest c.self.inside.earlier.items c.pop-2.new.self.items c.in-Some-pop.earlier
    c.in-Some.ensures.items c.in-Some-pop.ensures.items c.self.invariant)
    c.put_back.new.latest c.put_back.ensures

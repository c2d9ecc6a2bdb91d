-- The index has the keys behind the first pairs, and those are looked through if it has none.
use Rattle.scoped_env.specs.{bound_to}
use Rattle.scoped_env.proofs.Words.{◌∙◌, ap, take}
use Rattle.scoped_env.proofs.Indexing.{found_behind, found_first}
use Rattle.scoped_env.proofs.stack.PairStack.value_of.Goals as goal

pub returns-in-Some : goal.returns-in-Some
returns-in-Some c =
    found_behind c.self.inside.pairs.items c.self.inside.latest c.args.key.now c.in-Some.value.now c.self.invariant.latest c.in-Some.ensures.value
    ∙ ap (bound_to c.args.key.now) c.self.view_is

pub returns-in-None : goal.returns-in-None
returns-in-None c =
    c.last_value-in-None.ensures
    ∙ ap (λ xs. bound_to c.args.key.now (take 16 xs)) c.deref-in-None.ensures.value
    ∙ found_first c.self.inside.pairs.items c.self.inside.latest c.args.key.now c.self.invariant.latest c.in-None.ensures.value
    ∙ ap (bound_to c.args.key.now) c.self.view_is

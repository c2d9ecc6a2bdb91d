-- The own pairs stand above the inherited ones.
use Rattle.scoped_env.specs.{Layers.Layers, all_pairs, bound_to, option_or}
use Rattle.scoped_env.proofs.Words.{◌∙◌, ap, bound_to_append, sym}
use Rattle.scoped_env.proofs.own.OwnPairs.value_of.Goals as goal

pub returns-in-Some : goal.returns-in-Some
returns-in-Some c =
    let inside = c.self.inside in
    sym (ap (λ (e : Layers). bound_to c.args.key.now (all_pairs e)) (sym c.self.view_is)
    ∙ bound_to_append c.args.key.now inside.inherited inside.stack
    ∙ ap (λ o. option_or o (bound_to c.args.key.now inside.inherited)) (sym c.value_of.ensures ∙ c.in-Some.is))

pub returns-in-None : goal.returns-in-None
returns-in-None c =
    let inside = c.self.inside in
    c.value_of-in-None.ensures
    ∙ sym (ap (λ (e : Layers). bound_to c.args.key.now (all_pairs e)) (sym c.self.view_is)
    ∙ bound_to_append c.args.key.now inside.inherited inside.stack
    ∙ ap (λ o. option_or o (bound_to c.args.key.now inside.inherited)) (sym c.value_of.ensures ∙ c.in-None.is))

-- The list has the pair next.
use Rattle.std.proofs.Common.{[], ◌++◌, ◌+◌, ◌∙◌, ◌∷◌, ap, refl, subst, sym, take}
use Rattle.scoped_env.specs.{BeginsWith, pairs_listed}
use Rattle.scoped_env.proofs.Batches.{begins_next}
use Rattle.scoped_env.proofs.listed.Listed.push.Goals as goal

pub returns-then-has_at : goal.returns-then-has_at
returns-then-has_at c = λ pairs count begins.
    let list = pairs_listed c.self.inside.list in
    let here = c.if-self-depth.true in
    subst (λ n. BeginsWith (pairs ++ c.args.pair.now ∷ []) (take (n + 1) list)) (sym here)
    (begins_next pairs list c.args.pair.now c.args.depth (c.if-has_at.ensures.same refl) count
    (subst (BeginsWith pairs) (sym c.self.view_is ∙ ap (λ n. take n list) here) begins))

-- What was shared with the pair is let go.
use Rattle.std.proofs.Common.{◌+◌, ◌∙◌, ◌≡◌, ◌≤◌, Some, ap, arith, length, subst, take}
use Rattle.scoped_env.specs.{IfSome}
use Rattle.scoped_env.proofs.Batches.{cut_keeps}
use Rattle.scoped_env.proofs.own.OwnPairs.unbind.Goals as goal

pub invariant_of-self-2 : goal.invariant_of-self-2
invariant_of-self-2 c =
    let inside = c.self.inside in
    let own = length c.as_slice-own.result.now in
    let depth : c.len.result + own ≡ length inside.inherited + own = omega (arith, c.len.ensures.count) in
    cut_keeps inside.inherited inside.stack c.pop.new.self inside.frozen c.cut.new.self own c.pop.ensures.last (ap length c.as_slice-own.ensures) c.cut.ensures.within c.cut.ensures.first
    inside.listed c.cut-2.new.self inside.snapshot c.no_longer.result
    (c.cut-2.ensures ∙ ap (λ n. take n inside.listed) depth)
    (subst (λ n. IfSome c.no_longer.result (λ kept. (inside.snapshot ≡ Some kept) × (length kept ≤ n))) depth
    (subst (λ all. IfSome c.no_longer.result (λ kept. (all ≡ Some kept) × (length kept ≤ c.len.result + own))) c.take.ensures.value c.no_longer.ensures))
    c.self.invariant

-- In a legal history a scope lies one level below its parent.
use Rattle.std.proofs.Common.{ℕ, ◌+◌, ◌∙◌, ◌≡◌, None, Option, Some, arith, length, refl, suc}
use Rattle.scope_rules.specs.{History.History, IsInward, Legal.Legal, Limits, chain_by, level, onward, option_map_or, parent}
use Rattle.scope_rules.proofs.{ChainLaws.level_law, Parents.parent_smaller}

-- in a legal history each parent has a smaller number
pub parent_inward : (L : Limits) (h : History) → Legal L h → IsInward (parent h)
parent_inward L h legal s p is = let it = parent_smaller L h s p legal is in (omega (arith, it.0), it.1)

one_more : (f : ℕ → _) (o : Option ℕ) → suc (length (onward o f)) ≡ option_map_or (λ p. length (f p) + 1) o 1
one_more f None = refl
one_more f (Some p) = omega arith

-- a scope's level is one more than its parent's, and 1 without a parent
pub level_by_parent : (L : Limits) (h : History) (s : ℕ) → Legal L h → level h s ≡ option_map_or (λ p. level h p + 1) (parent h s) 1
unfolding level
level_by_parent L h s legal = level_law (parent h) (parent_inward L h legal) s ∙ one_more (chain_by (parent h)) (parent h s)

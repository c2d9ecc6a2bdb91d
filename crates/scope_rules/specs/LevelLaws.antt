-- What holds of levels in every legal history.
use Rattle.std.specs.Prelude.{ℕ, ◌+◌, ◌<◌, ◌≡◌, Some}
use Rattle.scope_rules.specs.Words.{Limits, option_map_or}
use Rattle.scope_rules.specs.{History.History, Legal.Legal, Scopes.level, Scopes.parent}

-- a scope's level is one more than its parent's, and 1 without a parent
abbrev pub LevelGoesByParent : Type 0
LevelGoesByParent = (L : Limits) (h : History) (s : ℕ) → Legal L h → level h s ≡ option_map_or (λ p. level h p + 1) (parent h s) 1

-- a parent has a smaller number
abbrev pub ParentIsSmaller : Type 0
ParentIsSmaller = (L : Limits) (h : History) (s p : ℕ) → Legal L h → parent h s ≡ Some p → (0 < p) × (p < s)

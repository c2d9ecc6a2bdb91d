-- The lines of a plan.
use Rattle.std.specs.Prelude.{◌++◌, ◌==◌, ◌∷◌, ◌≡◌}
use Rattle.quote_plan.specs.Words.{ℕ, Bool, List, false}
use Rattle.std.specs.List.{All}

-- the line feed
abbrev pub is_feed : ℕ → Bool
is_feed b = b == 10

-- no byte is a line feed
abbrev pub HasNoFeed : List ℕ → Type 0
HasNoFeed bytes = All (λ b. is_feed b ≡ false) bytes

-- the first line feed of the bytes is between this line and the rest
pub record CutsLine (bytes line rest : List ℕ) : Type 0 where
  pub whole : bytes ≡ line ++ 10 ∷ rest
  pub unended : HasNoFeed line

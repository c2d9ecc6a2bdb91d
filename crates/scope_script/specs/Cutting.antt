-- The lines of a script.
use Rattle.std.specs.Prelude.{[], ℕ, ◌++◌, ◌==◌, ◌∷◌, ◌≡◌, Bool, List, false, if◌then◌else◌}
use Rattle.scope_script.specs.Terms.{list_any}

-- the lines that line feeds end, the first going on from what is begun
unfoldable pub ended_lines : List ℕ → List ℕ → List (List ℕ)
ended_lines begun [] = []
ended_lines begun (b ∷ bytes) = if b == 10 then begun ∷ ended_lines [] bytes else ended_lines (begun ++ b ∷ []) bytes

-- what is left begun after the last line feed
unfoldable pub begun_line : List ℕ → List ℕ → List ℕ
begun_line begun [] = begun
begun_line begun (b ∷ bytes) = if b == 10 then begun_line [] bytes else begun_line (begun ++ b ∷ []) bytes

abbrev pub is_feed : ℕ → Bool
is_feed b = b == 10

-- one of the bytes is a line feed
abbrev pub has_feed : List ℕ → Bool
has_feed bytes = list_any is_feed bytes

-- the first line feed of the bytes is between this line and the rest
pub record CutsLine (bytes line rest : List ℕ) : Type 0 where
  pub whole : bytes ≡ line ++ 10 ∷ rest
  pub unended : has_feed line ≡ false

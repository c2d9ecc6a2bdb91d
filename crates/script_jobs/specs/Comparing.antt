-- The first line by which two texts differ.
use Rattle.std.specs.Prelude.{◌++◌, ◌+◌, ◌∷◌, ◌≡◌, ◌≢◌, ◌⊎◌}
use Rattle.script_jobs.specs.Words.{[], ℕ, CutsLine, List, false, flat_map, has_feed, length}

-- a line with its line feed
abbrev pub ended : List ℕ → List ℕ
ended line = line ++ 10 ∷ []

-- the first line of a text: up to a line feed, or all of it, but of no bytes none
abbrev pub IsFirst : (text line : List ℕ) → Type 0
IsFirst text line = ((rest : List ℕ) × CutsLine text line rest) ⊎ ((has_feed text ≡ false) × (line ≡ text))

-- both texts begin with the same line, and what comes after it are the rests
pub record BeginAlike (one other rest others : List ℕ) : Type 0 where
  pub line : List ℕ
  pub one_is : CutsLine one line rest
  pub other_is : CutsLine other line others

-- both texts begin with the same lines, one less than the number, and go on by these lines, which are not one, or
-- of which only one is ended
pub record DiffersAt (number : ℕ) (wanted given one other : List ℕ) : Type 0 where
  pub lines : List (List ℕ)
  pub many : number ≡ length lines + 1
  pub wanted_rest : List ℕ
  pub given_rest : List ℕ
  pub wanted_is : wanted ≡ flat_map ended lines ++ wanted_rest
  pub given_is : given ≡ flat_map ended lines ++ given_rest
  pub one_is : IsFirst wanted_rest one
  pub other_is : IsFirst given_rest other
  pub differ : wanted_rest ≢ given_rest

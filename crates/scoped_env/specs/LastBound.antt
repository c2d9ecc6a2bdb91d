-- Which pair of a list a key is bound by, in words of the list alone.
use Rattle.std.specs.Prelude.{◌++◌, ◌∷◌, ◌≡◌, ◌≢◌, List}
use Rattle.scoped_env.specs.Words.{All, Binding, Name, Value}

-- no pair has the key
abbrev pub HasNone : List Binding → Name → Type 0
HasNone pairs key = All (λ pair. pair.key ≢ key) pairs

-- a pair binds the key to the value, and no pair after it has the key
pub record IsLastBound (pairs : List Binding) (key : Name) (value : Value) : Type 0 where
  pub before : List Binding
  pub after : List Binding
  pub parts : pairs ≡ before ++ record { key = key; value = value } ∷ after
  pub none_after : HasNone after key

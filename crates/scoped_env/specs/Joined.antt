-- Lists of pairs in a row, and what an environment keeps of those that it shared.
use Rattle.std.specs.Prelude.{[], ◌++◌, ◌∷◌, ◌≡◌, List, Option, length, take}
use Rattle.scoped_env.specs.Words.{Binding, IfSome}

-- the lists as one
abbrev pub joined : List (List Binding) → List Binding
joined [] = []
joined (list ∷ lists) = list ++ joined lists

-- the list is what the pairs begin with
abbrev pub BeginsWith : List Binding → List Binding → Type 0
BeginsWith pairs list = list ≡ take (length list) pairs

-- what an environment keeps: batches of its first own pairs, a list of its first pairs, and the first that it shared
pub record Keeps (inherited stack : List Binding) (batches : List (List Binding)) (listed : List Binding) (snapshot : Option (List Binding)) : Type 0 where
  pub own : BeginsWith stack (joined batches)
  pub list : BeginsWith (inherited ++ stack) listed
  pub shared : IfSome snapshot (BeginsWith (inherited ++ stack))

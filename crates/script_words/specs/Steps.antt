-- Steps of which each may fail.
use Rattle.script_words.specs.Terms.{Option, option_and_then}

infixl 10 ◌>>=◌
abbrev pub ◌>>=◌ : {A B : Type 0} → Option A → (A → Option B) → Option B
o >>= f = option_and_then f o

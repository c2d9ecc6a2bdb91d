-- What comes of some bytes if memory or a stream may fail.
use Rattle.std.specs.Prelude.{ℕ, ◌++◌, ◌≡◌, List, Option}
use Rattle.scope_script.specs.Terms.{Appends}

-- known bytes grew by a beginning of bs; a text is `Some` of its bytes
pub record AppendsPart (old new : Option (List ℕ)) (bs : List ℕ) : Type 0 where
  pub part : List ℕ
  pub rest : List ℕ
  pub whole : bs ≡ part ++ rest
  pub appended : Appends old new part

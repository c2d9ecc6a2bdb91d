-- What a call made of the bytes of a stream.
use Rattle.scopectl.specs.Words.{ℕ, List, Option, Watched}

-- the bytes that a reader has left, or that a writer has taken, before a call and after it, each if they are known
pub record Turn : Type 0 where
  pub before : Option (List ℕ)
  pub after : Option (List ℕ)

-- so of a stream whose bytes are known so
abbrev pub turn : {T : Type 0} (known : T → Option (List ℕ)) (old new : Watched T) → Turn
turn known old new = record { before = known old.inner; after = known new.inner }

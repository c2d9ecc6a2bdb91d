-- What is said on standard error.
use Rattle.std.specs.Prelude.{◌++◌, ◌==◌, ◌||◌, ◌∷◌, ◌≡◌, ◌⊎◌, if◌then◌else◌}
use Rattle.scopectl.specs.Words.{[], ℕ, Appends, AppendsPart, Bool, Count, List, Option, Tally, codes, decimal, false, true}

-- the stream took the whole text, or failed and took a beginning of it
abbrev pub IsSaid : (text : List ℕ) (said said_new : Option (List ℕ)) (failed : Bool) → Type 0
IsSaid text said said_new failed =
    Appends said said_new text ⊎ (AppendsPart said said_new text × (failed ≡ true))

-- ---- of lines that were refused

-- the line that says how many they are
abbrev pub tally_line : Tally → List ℕ
tally_line tally = codes "scopectl: lines refused: " ++ decimal tally.refused ++ codes ", not a command: " ++ decimal tally.bad_words ++ 10 ∷ []

-- what is said of a text that looks like no script
abbrev pub foreign_text : Count → List ℕ
foreign_text count = if count.is_foreign then codes "scopectl: this does not look like a script: no line of it did anything\n" else []

-- what is said of a script with refused lines
abbrev pub count_text : Count → List ℕ
count_text count = tally_line count.tally ++ foreign_text count

-- nothing is said where it is to be quiet, or where there are none
abbrev pub is_silent : (quiet : Bool) → Count → Bool
is_silent quiet count = quiet || (count.tally.refused == 0)

abbrev pub EitherBy : Bool → Type 0 → Type 0 → Type 0
EitherBy true A B = A
EitherBy false A B = B

-- nothing was said where there is nothing to say, so that the stream is as it was, and else that text
abbrev pub Noted : (quiet : Bool) → Count → (Kept : Type 0) (said said_new : Option (List ℕ)) (failed : Bool) → Type 0
Noted quiet count Kept said said_new failed = EitherBy (is_silent quiet count) Kept (IsSaid (count_text count) said said_new failed)

-- notes on a script's lines were said, and then that text, if there is something to say
pub record SaidNotes (quiet : Bool) (count : Count) (said_new : Option (List ℕ)) (failed : Bool) : Type 0 where
  pub noted : Option (List ℕ)
  pub counted : Noted quiet count (said_new ≡ noted) noted said_new failed

-- some text was said
pub record SaidSome (said said_new : Option (List ℕ)) (failed : Bool) : Type 0 where
  pub text : List ℕ
  pub some : text ≡ [] → ⊥
  pub is : IsSaid text said said_new failed

-- the status if some lines make it 3
abbrev pub three_if_some : ℕ → ℕ
three_if_some n = if n == 0 then 0 else 3

-- the status: 3 if lines were refused and it is to be strict, or where lines are no commands and it is not to be
-- lenient
abbrev pub status_of : (strict lenient : Bool) → Count → ℕ
status_of strict lenient count =
    if strict then three_if_some count.tally.refused
    else if lenient then 0
    else three_if_some count.tally.bad_words

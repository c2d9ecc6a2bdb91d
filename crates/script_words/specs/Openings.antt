-- The words of an `open` that may be left out.
use Rattle.std.specs.Prelude.{[], ℕ, ◌∷◌, List, None, Option, Some, codes, if◌then◌else◌, option_map}
use Rattle.script_words.specs.Terms.{bytes_eq}
use Rattle.script_words.specs.{Steps.◌>>=◌, Joiners.after, Numbers.moment_said}

-- what the word was found to be and the fields after it, or else what holds without it, and all the
-- fields
abbrev pub found_or : {A : Type 0} → A → List ℕ → List (List ℕ) → Option A → A × List (List ℕ)
found_or without word others (Some found) = (found, others)
found_or without word others None = (without, word ∷ others)

-- what the next word says, if it says anything, and the fields after it
unfoldable pub next_said : {A : Type 0} → A → (List ℕ → Option A) → List (List ℕ) → A × List (List ℕ)
next_said without said [] = (without, [])
next_said without said (word ∷ others) = found_or without word others (said word)

-- the moment n of `deadline=n`
abbrev pub deadline_said : List ℕ → Option ℕ
deadline_said word = after (codes "deadline=") word >>= moment_said

-- and that there is one
abbrev pub due_said : List ℕ → Option (Option ℕ)
due_said word = option_map Some (deadline_said word)

-- what holds with the flag, if the word is that flag
abbrev pub flag_said : {A : Type 0} → List ℕ → A → List ℕ → Option A
flag_said flag there word = if bytes_eq word flag then Some there else None

-- What a script is that was made: lines that are answered, each.
use Rattle.std.specs.Prelude.{◌&&◌, ◌++◌, ◌==◌, ◌∷◌, ◌≡◌}
use Rattle.script_jobs.specs.Words.{[], ℕ, BadWord, Bool, Line, List, Silent, false, flat_map, length, line_said, list_all, list_any, not, true}
use Rattle.script_words.specs.declared.commands.Line.TheVariants.{Command}

abbrev pub is_answered : Line → Bool
is_answered Silent = false
is_answered BadWord = true
is_answered (Command command) = true

abbrev pub is_feed : ℕ → Bool
is_feed b = b == 10

-- the text is one line, and is answered
abbrev pub is_answered_line : List ℕ → Bool
is_answered_line line = not (list_any is_feed line) && is_answered (line_said line)

-- a line with its line feed
abbrev pub ended : List ℕ → List ℕ
ended line = line ++ 10 ∷ []

-- the text is so many lines, each of which is answered
pub record IsScript (count : ℕ) (text : List ℕ) : Type 0 where
  pub lines : List (List ℕ)
  pub many : length lines ≡ count
  pub answered : list_all is_answered_line lines ≡ true
  pub is : text ≡ flat_map ended lines

-- and one line more
pub record OneMore (text more : List ℕ) : Type 0 where
  pub line : List ℕ
  pub answered : is_answered_line line ≡ true
  pub is : more ≡ text ++ ended line

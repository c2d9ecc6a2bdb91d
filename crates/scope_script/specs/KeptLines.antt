-- What is kept of a line that comes byte by byte.
use Rattle.std.specs.Prelude.{[], ℕ, ◌++◌, ◌∷◌, Bool, List, None, Option, Some, false, if◌then◌else◌, length, nat_lt, true}
use Rattle.script_words.specs.{Lines.line_said, declared.commands.Line.Line, declared.commands.Line.TheVariants.BadWord, declared.lines.TheConstants.LINE_LIMIT}

-- a line as it is kept: its bytes, or none if they are more than a line may have
abbrev pub KeptLine : Type 0
KeptLine = Option (List ℕ)

-- what is kept of a line
unfoldable pub kept : List ℕ → KeptLine
kept line = if nat_lt LINE_LIMIT (length line) then None else Some line

-- a kept line with one byte more
unfoldable pub grown : KeptLine → ℕ → KeptLine
grown None b = None
grown (Some line) b = if nat_lt (length line) LINE_LIMIT then Some (line ++ b ∷ []) else None

-- a kept line with more bytes
unfoldable pub grown_by : KeptLine → List ℕ → KeptLine
grown_by line [] = line
grown_by line (b ∷ bytes) = grown_by (grown line b) bytes

-- what a kept line says
abbrev pub said : KeptLine → Line
said None = BadWord
said (Some line) = line_said line

-- the kept line has no byte
abbrev pub is_blank : KeptLine → Bool
is_blank (Some []) = true
is_blank _ = false

-- What a line says.
use Rattle.std.specs.Prelude.{[], ℕ, ◌==◌, ◌∷◌, Bool, List, None, Option, Some, false, if◌then◌else◌, length, nat_lt}
use Rattle.script_words.specs.Terms.{Command, LINE_LIMIT, Line}
use Rattle.script_words.specs.{Steps.◌>>=◌, Fields.fields, Forms.form_said, Forms.keyword_said}
use Rattle.script_words.specs.declared.commands.Line.TheVariants as line

-- the command that these fields are
unfoldable pub command_said : List ℕ → List (List ℕ) → Option Command
command_said word args = do
  keyword ← keyword_said word
  form_said keyword args

-- what is no command is a bad word
abbrev pub line_of : Option Command → Line
line_of None = line.BadWord
line_of (Some command) = line.Command command

-- a word that begins with `#`
abbrev pub begins_comment : List ℕ → Bool
begins_comment [] = false
begins_comment (b ∷ bs) = b == 35

-- no field, or a first one that begins with `#`: nothing is said
unfoldable pub fields_said : List (List ℕ) → Line
fields_said [] = line.Silent
fields_said (word ∷ args) = if begins_comment word then line.Silent else line_of (command_said word args)

-- the line without its line feed; one that is too long is in no form
unfoldable pub line_said : List ℕ → Line
line_said text = if nat_lt LINE_LIMIT (length text) then line.BadWord else fields_said (fields text)

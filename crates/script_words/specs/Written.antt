-- A line that is written in place.
use Rattle.std.specs.Prelude.{◌≡◌, Option, option_map}
use Rattle.script_words.specs.Terms.{Command, Line}
use Rattle.script_words.specs.declared.commands.Line.TheVariants as line

-- the line is the command that is said, or it is told that none is
abbrev pub Writes : {A : Type 0} → Option A → Line → Option Command → Type 0
Writes done written said = option_map (λ _. written) done ≡ option_map line.Command said

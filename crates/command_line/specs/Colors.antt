-- When output has colors.
use Rattle.std.specs.Prelude.{if◌then◌else◌}
use Rattle.command_line.specs.Words.{ℕ, Always, Auto, ColorChoice, List, Never, None, Option, Some, bytes_eq, codes}

-- the choice of this name
abbrev pub choice_named : List ℕ → Option ColorChoice
choice_named word = if bytes_eq word (codes "auto") then Some Auto
    else (if bytes_eq word (codes "always") then Some Always
    else (if bytes_eq word (codes "never") then Some Never else None))

-- the choice that the text of `--color` says: `auto` if it was not given
abbrev pub choice_said : Option (List ℕ) → Option ColorChoice
choice_said None = Some Auto
choice_said (Some text) = choice_named text

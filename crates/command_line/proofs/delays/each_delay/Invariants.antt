use Rattle.std.specs.Prelude.{◌++◌, ◌≡◌}
use Rattle.command_line.specs.{delay_of, each_said, map, option_map}
use Rattle.command_line.proofs.Words.{drop}
use Rattle.command_line.proofs.delays.each_delay.Given as goal

-- the texts say what was found, and what the others say
abbrev pub invariant-loop-text : goal.invariant-loop-text
invariant-loop-text l =
    each_said (map (λ text. text.now) l.texts) ≡ option_map (λ more. map delay_of l.delays.items ++ more) (each_said (map (λ text. text.now) (drop l.text-index l.texts)))

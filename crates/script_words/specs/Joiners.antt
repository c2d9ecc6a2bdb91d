-- Joiners as words.
use Rattle.std.specs.Prelude.{ℕ, List, None, Option, Some, codes, drop, if◌then◌else◌, length, option_map, take}
use Rattle.scope_rules.specs.declared.types.joiners.Policy.TheVariants.{All}
use Rattle.script_words.specs.Terms.{Any, AwaitAll, AwaitOk, FailuresAtLeast, Policy, Rule, SuccessesAtLeast, SumAtLeast, Until, bytes_eq, option_or}
use Rattle.script_words.specs.{Steps.◌>>=◌, Numbers.integer_said, Numbers.small_said}

-- what is after the prefix, in a word that begins with it
unfoldable pub after : List ℕ → List ℕ → Option (List ℕ)
after prefix word = if bytes_eq (take (length prefix) word) prefix then Some (drop (length prefix) word) else None

-- `until:fail:n`
abbrev pub failures_said : List ℕ → Option Rule
failures_said word = option_map FailuresAtLeast (after (codes "until:fail:") word >>= small_said)

-- `until:ok:n`
abbrev pub successes_said : List ℕ → Option Rule
successes_said word = option_map SuccessesAtLeast (after (codes "until:ok:") word >>= small_said)

-- `until:sum:n`, if n may be below 0
abbrev pub sum_said : List ℕ → Option Rule
sum_said word = option_map SumAtLeast (after (codes "until:sum:") word >>= integer_said)

-- the rule that the word is
unfoldable pub rule_said : List ℕ → Option Rule
rule_said word = option_or (failures_said word) (option_or (successes_said word) (sum_said word))

-- the joiner that the word is
unfoldable pub policy_said : List ℕ → Option Policy
policy_said word =
    if bytes_eq word (codes "all") then Some All
    else if bytes_eq word (codes "any") then Some Any
    else if bytes_eq word (codes "await") then Some AwaitAll
    else if bytes_eq word (codes "await-ok") then Some AwaitOk
    else option_map Until (rule_said word)

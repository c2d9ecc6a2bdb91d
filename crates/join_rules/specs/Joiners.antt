-- What a joiner of the code stands for.
use Rattle.join_rules.specs.Words.{Bool, Policy, Rule, false, true}
use Rattle.join_rules.specs.declared.{joiners.Joiner.Joiner, joiners.Joiner.TheVariants.All, joiners.Joiner.TheVariants.Any, joiners.Joiner.TheVariants.AwaitAll, joiners.Joiner.TheVariants.AwaitOk}
use Rattle.join_rules.specs.declared.{joiners.Joiner.TheVariants.Until, until.UntilTest.TheVariants.Closure, until.UntilTest.TheVariants.Plain, until.UntilTest.UntilTest}
use Rattle.scope_rules.specs.declared.types.joiners.Policy.TheVariants as policy

-- the rule that a test agrees with
abbrev pub rule_of : {g : _} {f : _} {m : _} → UntilTest g f m → Rule
rule_of (Plain rule) = rule
rule_of (Closure stored) = stored.rule

-- whether a closure of the caller's is asked
abbrev pub has_closure : {g : _} {f : _} {m : _} → UntilTest g f m → Bool
has_closure (Plain rule) = false
has_closure (Closure stored) = true

-- the joiner as plain data
abbrev pub policy_of : {g : _} {f : _} {m : _} → Joiner g f m → Policy
policy_of All = policy.All
policy_of Any = policy.Any
policy_of AwaitAll = policy.AwaitAll
policy_of AwaitOk = policy.AwaitOk
policy_of (Until test) = policy.Until (rule_of test)

-- whether the joiner asks a closure of the caller's
abbrev pub asks_closure : {g : _} {f : _} {m : _} → Joiner g f m → Bool
asks_closure (Until test) = has_closure test
asks_closure _ = false

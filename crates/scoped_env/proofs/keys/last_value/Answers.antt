-- The first pair from the end that has the key is the last one that has it.
use Rattle.std.proofs.Common.{◌∙◌, ◌≡◌, Bor, None, Option, Some, ap, refl, rules}
use Rattle.scoped_env.specs.{Binding, option_map}
use Rattle.scoped_env.proofs.Words.{YieldsList-from_rev_slice, find_from_yields_List}
use Rattle.scoped_env.proofs.Lookups.{bound_to-find, has_key, told_same, value_of}
use Rattle.scoped_env.proofs.keys.last_value.Goals as goal

twice : (o : Option (Bor Binding)) → option_map (λ y. y.now.value) o ≡ option_map value_of (option_map (λ y. y.now) o)
twice None = refl
twice (Some y) = refl

pub returns : goal.returns
returns c =
    let key = c.args.key.now in
    let pairs = c.args.pairs.now in
    let found = find_from_yields_List (has_key key) _ _ c.find.result c.find.ensures.ran (YieldsList-from_rev_slice pairs cc) (λ x b q k. (search rules, told_same b x.now.key c.args.key.now (search rules))) in
    let mapped : c.map.result ≡ option_map (λ y. y.now.value) c.find.result = search rules in
    mapped ∙ twice c.find.result ∙ ap (option_map value_of) found ∙ bound_to-find key pairs

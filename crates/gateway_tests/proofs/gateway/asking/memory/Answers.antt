use Rattle.std.proofs.Common.{◌≡◌, true, false, refl}
use Rattle.scope_rules.specs.NameText.{is_name}
use Rattle.gateway_tests.proofs.gateway.asking.memory.Goals as goal

-- the text may be a name
pub unreachable-requires : goal.unreachable-requires
unfolding is_name
unreachable-requires c = let named : false ≡ true = c.in-None.ensures.named.1 refl in cc

-- The bytes of a name are UTF-8.
use Rattle.scope_rules.proofs.NameBytes.{name_is_utf8}
use Rattle.scope_rules.proofs.types.names.Name.as_str.Goals as goal

pub unreachable-requires : goal.unreachable-requires
unreachable-requires c = c.in_default.ensures.cases.0 (rw c.as_bytes.ensures (name_is_utf8 c.args.self.now))

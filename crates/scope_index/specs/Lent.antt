-- The scopes that are lent to be read.
use Rattle.std.specs.Prelude.{ℕ, ◌+◌, List, map}
use Rattle.scope_index.specs.declared.cancelled.CancelledScopes.{CancelledScopes}

-- their numbers
abbrev pub scopes_of : CancelledScopes → List ℕ
scopes_of c = map (λ n. c.before + n) c.rows.now

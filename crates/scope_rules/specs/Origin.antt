-- What a history begins with.
use Rattle.std.specs.Prelude.{[], ℕ, List}
use Rattle.scope_rules.specs.declared.types.events.Binding.{Binding}

-- the moment, how many scopes and tasks were numbered before, and main's own bindings
pub record Origin : Type 0 where
  pub moment : ℕ
  pub scopes : ℕ
  pub tasks : ℕ
  pub binds : List Binding

-- what a fresh realm begins with
abbrev pub the_start : Origin
the_start = record { moment = 0; scopes = 0; tasks = 0; binds = [] }

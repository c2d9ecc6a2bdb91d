-- What is said of a realm with its limits.
use Rattle.std.specs.Prelude.{◌≡◌}
use Rattle.scope_checks.specs.Words.{IsWithin, Legal, Limits, Realm}

-- the limits are the realm's, and its history is legal and within them, the base's load and numbers counted
pub record IsRuled (realm : Realm) (L : Limits) : Type 0 where
  pub limits : L ≡ realm.limits
  pub legal : Legal realm.limits realm.history
  pub within : IsWithin realm.limits realm.history

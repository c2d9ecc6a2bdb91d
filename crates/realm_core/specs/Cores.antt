-- What lies under a realm's lock, and what always holds of it.
use Rattle.std.specs.Prelude.{◌≡◌, List}
use Rattle.realm_core.specs.Words.{IsLegal, KeeperValue, Limits, Realm, RealmStep, TableId, history_of}

-- what lies under the lock: the realm's limits, and the list of its steps since it began
pub record CoreValue : Type 0 where
  pub limits : Limits
  pub steps : List RealmStep

-- the keeper is at the table of this name, and what is kept is the replay of its list: the limits are the
-- same, and the history is that of the list, which is legal
pub record Tied (name : TableId) (realm : Realm) (keeper : KeeperValue) : Type 0 where
  pub named : keeper.table ≡ name
  pub limited : keeper.limits ≡ realm.limits
  pub replay : history_of keeper.steps ≡ realm.history
  pub lawful : IsLegal keeper.limits keeper.steps

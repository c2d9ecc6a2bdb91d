-- Which histories are legal: each event was accepted on the events before it.
use Rattle.std.specs.Prelude.{ℕ, ◌≡◌, ◌≤◌, Ok, Some, false, slice_get}
use Rattle.scope_rules.specs.Words.{Event, GREATEST_NUMBER, Limits}
use Rattle.scope_rules.specs.{History.History, History.before, History.forked_count, History.opened_count, History.scopes, History.tasks, Load.load, Table.check_of, Table.is_already}

-- the event may come next after h: no check refuses it, and it is not so already
pub record Accepts (L : Limits) (h : History) (e : Event) : Type 0 where
  pub passed : check_of L h e ≡ Ok tt
  pub recorded : is_already h e ≡ false

-- each event was accepted on the events before it
unfoldable pub Legal : Limits → History → Type 0
Legal L h = (i : ℕ) (e : Event) → slice_get h.events i ≡ Some e → Accepts L (before h i) e

-- the realm is within its limits, the base counted if the limits count it
pub record IsWithin (L : Limits) (h : History) : Type 0 where
  pub opened : opened_count h ≤ L.scopes
  pub forked : forked_count h ≤ L.tasks
  pub loaded : load h ≤ L.load
  pub scopes_fit : scopes h ≤ GREATEST_NUMBER
  pub tasks_fit : tasks h ≤ GREATEST_NUMBER

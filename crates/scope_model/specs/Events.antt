-- The events that the plain evaluator keeps.
use Rattle.std.specs.Prelude.{◌≡◌, ◌≤◌}
use Rattle.scope_model.specs.Words.{ℕ, Event, History, List, load}

-- they are the history's, and there is room for as many as its load
pub record AreEventsOf (h : History) (events : List Event) (capacity : ℕ) : Type 0 where
  pub same : events ≡ h.events
  pub room : load h ≤ capacity

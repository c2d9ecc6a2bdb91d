-- A past that may be retired, and the two histories that go on from it: with the past, and with the
-- base that a retirement leaves in its place.
use Rattle.std.specs.Prelude.{ℕ, ◌&&◌, ◌++◌, ◌||◌, ◌≡◌, Bool, List, None, Some, false, nat_le, nat_lt, slice_get}
use Rattle.scope_log.specs.Words.{BeginClose, Bind, Cancel, EndClose, Event, Finish, Fork, History, Join, Legal, Limits, Move, Open, Origin, Reject, Start, Tick, Unbind, innermost, moment, scopes, stack, tasks}

-- the number was discarded: it is one of the first so many
abbrev pub is_let_go : ℕ → ℕ → Bool
is_let_go count n = nat_lt 0 n && nat_le n count

-- the event names a scope or a task that was discarded
abbrev pub names_let_go : Origin → Event → Bool
names_let_go b (Open actor policy options) = is_let_go b.tasks actor
names_let_go b (Fork actor scope label) = is_let_go b.tasks actor || is_let_go b.scopes scope
names_let_go b (Reject task) = is_let_go b.tasks task
names_let_go b (Start task) = is_let_go b.tasks task
names_let_go b (Finish task end) = is_let_go b.tasks task
names_let_go b (Cancel scope) = is_let_go b.scopes scope
names_let_go b (Move scope deadline) = is_let_go b.scopes scope
names_let_go b (Tick now) = false
names_let_go b (Bind actor pair) = is_let_go b.tasks actor
names_let_go b (Unbind actor) = is_let_go b.tasks actor
names_let_go b (Join actor scope) = is_let_go b.tasks actor || is_let_go b.scopes scope
names_let_go b (BeginClose actor scope) = is_let_go b.tasks actor || is_let_go b.scopes scope
names_let_go b (EndClose actor scope) = is_let_go b.tasks actor || is_let_go b.scopes scope

-- a legal history in which main has no scope that isn't closed
pub record Retirable : Type 0 where
  pub limits : Limits
  pub past : History
  pub legal : Legal limits past
  pub none : innermost past 0 ≡ None

-- what a retirement leaves of the past
abbrev pub left : Retirable → Origin
left r = record { moment = moment r.past; scopes = scopes r.past; tasks = tasks r.past; binds = stack r.past 0 }

-- the events behind the past
abbrev pub unretired : Retirable → List Event → History
unretired r es = record { base = r.past.base; events = r.past.events ++ es }

-- the same events behind what a retirement leaves
abbrev pub retired : Retirable → List Event → History
retired r es = record { base = left r; events = es }

-- none of the events names a number that was discarded
abbrev pub NamesNone : Retirable → List Event → Type 0
NamesNone r es = (i : ℕ) (e : Event) → slice_get es i ≡ Some e → names_let_go (left r) e ≡ false

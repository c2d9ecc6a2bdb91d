-- A scope that was opened has a trail, so an event can be told of its scope.
use Rattle.std.proofs.Common.{ℕ, ◌∙◌, ◌≡◌, Some, false, sym}
use Rattle.scope_journal.specs.{Accepts, AreTrailsOf, Event, HasTrail, History, Legal, Limits, TrailTable.TrailTable, is_open, scope_of_event}
use Rattle.scope_journal.proofs.Words.{IsOpened, named_opened, opened_numbered, opening_same}
use Rattle.scope_journal.proofs.LogPlaces.{one_scope}

-- a scope that was opened has a trail
pub opened_trail : (h : History) (t : TrailTable) (s : ℕ) → AreTrailsOf h t → IsOpened h s → HasTrail t s
opened_trail h t s are it = opened_numbered h t.before t.lasts s are.numbered are.count it

-- so has the scope of an accepted event that opens none
pub event_trail : (L : Limits) (h : History) (e : Event) (t : TrailTable) (s : ℕ) → Legal L h → Accepts L h e → is_open e ≡ false → AreTrailsOf h t → scope_of_event h e ≡ Some s → HasTrail t s
event_trail L h e t s legal ok other are named =
    let it = named_opened L h s e legal ok ((one_scope h s e).1 named) in
    opened_trail h t s are (record { opened = it.opened; is = sym (opening_same h e s other) ∙ it.is })

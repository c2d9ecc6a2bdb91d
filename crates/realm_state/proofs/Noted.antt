-- When an accepted event can be told to the trails of its realm, and what they are of then.
use Rattle.std.proofs.Common.{[], ℕ, ◌+◌, ◌∙◌, ◌≡◌, ◌≤◌, Err, Ok, OnOk, Option, Result, ap, arith, false, inl, inr, length, subst, sym, true}
use Rattle.realm_state.specs.{Accepts, AnswersOrMemory, AreTrailsOf, CanBeNoted, Checked, Event, HasLoadRoom, HasRoomFor, History, Legal, Limits, Open, Origin, Realm, TrailTable, base_check, followed, is_err, is_open, load}
use Rattle.realm_state.specs.{scope_of_event, starting, weight, with_event}
use Rattle.realm_state.proofs.Words.{event_trail, events_room, load_push}

-- the event can be told where there is room
pub can_tell : (L : Limits) (h : History) (e : Event) (t : TrailTable) (scope : Option ℕ) (place : ℕ) → Legal L h → Accepts L h e → AreTrailsOf h t → HasLoadRoom (followed h e) t.room → (is_open e ≡ true → 1 ≤ t.spare) → (is_open e ≡ false → scope ≡ scope_of_event h e) → place ≡ length h.events
    → CanBeNoted t e scope place
can_tell L h e t scope place legal ok are loaded spare named at = record {
  next = at ∙ sym are.linked;
  room = events_room L h e t legal ok loaded are;
  spare = spare;
  there = λ other s is. event_trail L h e t s legal ok other are (sym (named other) ∙ is);
}

-- there is, if it was made for the load with the event
pub made_room : (h : History) (e : Event) (t : TrailTable) (n : ℕ) → n ≡ load h + weight e → HasRoomFor t e n → HasLoadRoom (followed h e) t.room
made_room h e t n is room = omega (arith, load_push h e, is, room.0)

-- an event that costs nothing opens no scope
pub free_opens_none : (e : Event) → weight e ≡ 0 → is_open e ≡ true → ⊥
free_opens_none (Open actor policy options) free opens = absurd cc
free_opens_none _ free opens = absurd cc

-- what a call says of its success, if it did not fail
pub on_ok : {T E : Type 0} (r : Result T E) (P : Type 0) → is_err r ≡ false → OnOk r P → P
on_ok (Ok x) P succeeded so = so
on_ok (Err x) P succeeded so = absurd cc

-- what holds of the history with the event, of a realm that the event was added to
pub of_next : (P : History → Type 0) (r s t : Realm) (e : Event) → t ≡ with_event s e → s ≡ r → P (followed r.history e) → P t.history
of_next P r s t e added same so = subst P (sym (ap (λ (x : Realm). x.history) added ∙ ap (λ (x : Realm). followed x.history e) same)) so

-- what was answered is the value, if nothing was refused
answered : {A : Type 0} (check : Checked) (value x : A) → AnswersOrMemory check value (Ok x) → x ≡ value
answered (Ok done) value x (inl is) = cc
answered (Ok done) value x (inr is) = absurd cc
answered (Err r) value x is = absurd cc

-- what holds of the history of a base alone, of a realm that begins with it
pub at_base : (P : History → Type 0) (realm : Realm) (L : Limits) (b c : Origin) → AnswersOrMemory (base_check L b) (starting L b) (Ok realm) → c ≡ realm.history.base → P (record { base = c; events = [] }) → P realm.history
at_base P realm L b c made same so =
    let is = ap (λ (r : Realm). r.history) (answered (base_check L b) (starting L b) realm made) in
    let base : c ≡ b = same ∙ ap (λ (h : History). h.base) is in
    subst P (sym is) (subst (λ x. P (record { base = x; events = [] })) base so)

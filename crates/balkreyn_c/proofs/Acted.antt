-- What a command did to a book.
use Rattle.std.proofs.Common.{ℕ, ℤ, ◌∙◌, ◌≡◌, Option, Result, Some, ap, pos, subst, sym}
use Rattle.balkreyn_c.specs.{Acts, Event, EventReply, IsNoted, LetsGo, NotesTime, Origin, Realm, Refusal, Retires, Tells, TimedRealm, number_of, times_left, told_number, with_realm}

-- the realm was told the event
pub tried : (held new : Option TimedRealm) (old : TimedRealm) (realm : Realm) (e : Event) (reply : Result EventReply Refusal) (answer : ℤ) → held ≡ Some old → Tells old.realm e reply realm → answer ≡ number_of told_number reply → new ≡ Some (with_realm old realm) → Acts held (Some e) answer new
tried held new old realm e reply answer there tells number holds = rw there (record { realm = realm; holds = holds; performs = record { reply = reply; tells = tells; number = number } })

-- times went with their events
module _ (old was left : TimedRealm) (realm : Realm) (same : was ≡ with_realm old realm) (kept : left.realm ≡ was.realm) where
  pub left_realm : left.realm ≡ realm
  left_realm = kept ∙ ap (λ (t : TimedRealm). t.realm) same

  pub left_times : left.times.items ≡ times_left was.realm.history was.times.items → left.times.items ≡ times_left left.realm.history old.times.items
  left_times times = times ∙ (ap (λ (t : TimedRealm). times_left t.realm.history t.times.items) same ∙ ap (λ (r : Realm). times_left r.history old.times.items) (sym left_realm))

-- main let the past go, or was refused
pub let_go : (held new : Option TimedRealm) (old was left : TimedRealm) (realm : Realm) (actor : ℕ) (reply : Result Origin Refusal) (answer : ℤ) → held ≡ Some old → Retires old.realm actor reply realm → was ≡ with_realm old realm → left.realm ≡ was.realm → left.times.items ≡ times_left was.realm.history was.times.items → answer ≡ number_of (λ base. pos 0) reply → new ≡ Some left → LetsGo held actor answer new
let_go held new old was left realm actor reply answer there retires same kept times number holds =
    let P : Realm → Type 0 = λ r. Retires old.realm actor reply r in
    rw there (record { timed = left; holds = holds; reply = reply; retires = subst P (sym (left_realm old was left realm same kept)) retires; times = left_times old was left realm same kept times; number = number })

-- a time was noted, or refused
pub took_time : (held new : Option TimedRealm) (old timed : TimedRealm) (at : ℕ) (reply : Result (Unit {0}) Refusal) (answer : ℤ) → held ≡ Some old → timed.realm ≡ old.realm → IsNoted old.realm.history old.times.items at reply timed.times.items → answer ≡ number_of (λ done. pos 0) reply → new ≡ Some timed → NotesTime held at answer new
took_time held new old timed at reply answer there realm noted number holds = rw there (record { timed = timed; holds = holds; realm = realm; reply = reply; noted = noted; number = number })

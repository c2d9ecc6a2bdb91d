-- What a command does to the realm of a book.
use Rattle.std.specs.Prelude.{ℤ, ◌≡◌, None, Option, Result, Some}
use Rattle.balkreyn_c.specs.Words.{Event, EventReply, Realm, Refusal, Tells, TimedRealm}
use Rattle.balkreyn_c.specs.{Numbers.bad_argument, Numbers.no_realm, Numbers.number_of, Numbers.told_number, Timed.with_realm}

-- the event is tried: the number is that of what it is told, or of the refusal, and the realm is what that leaves
pub record Performs (old : Realm) (e : Event) (answer : ℤ) (new : Realm) : Type 0 where
  pub reply : Result EventReply Refusal
  pub tells : Tells old e reply new
  pub number : answer ≡ number_of told_number reply

-- a book that holds none answers that, whatever it is asked, and still holds none
pub record Answers (answer : ℤ) (new : Option TimedRealm) : Type 0 where
  pub number : answer ≡ no_realm
  pub none : new ≡ None

-- the arguments are in no form
pub record Refuses (old : TimedRealm) (answer : ℤ) (new : Option TimedRealm) : Type 0 where
  pub number : answer ≡ bad_argument
  pub kept : new ≡ Some old

-- the event is tried in the realm, and the times stay
pub record Tries (old : TimedRealm) (e : Event) (answer : ℤ) (new : Option TimedRealm) : Type 0 where
  pub realm : Realm
  pub holds : new ≡ Some (with_realm old realm)
  pub performs : Performs old.realm e answer realm

-- the command of the event, if its arguments make one
abbrev pub Acts : Option TimedRealm → Option Event → ℤ → Option TimedRealm → Type 0
Acts None e answer new = Answers answer new
Acts (Some old) None answer new = Refuses old answer new
Acts (Some old) (Some e) answer new = Tries old e answer new

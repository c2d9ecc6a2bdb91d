-- When the events of a realm happened, by the readings of its host's clock that were noted.
use Rattle.std.specs.Prelude.{ℕ, ℤ, ◌++◌, ◌-◌, ◌≡◌, Bool, Err, List, None, Ok, Option, Result, Some, cond, false, length, nat_lt, pos, replicate, slice_get, take}
use Rattle.balkreyn_c.specs.Words.{ClockBack, Event, History, Memory, Refusal, TimedRealm, option_map_or}
use Rattle.balkreyn_c.specs.{Acting.Answers, Numbers.number_of}

-- whether the time is before that of the last event that has one
abbrev pub is_back : List ℕ → ℕ → Bool
is_back times at = option_map_or (λ last. nat_lt at last) (slice_get times (length times - 1)) false

-- the times that were found before stay, and each other event happened by this one
abbrev pub with_time : List Event → List ℕ → ℕ → List ℕ
with_time events times at = take (length events) times ++ replicate (length events - length times) at

-- a note is refused for a time before the last one, and else for memory alone; then no event has another time
abbrev pub IsNoted : History → List ℕ → ℕ → Result (Unit {0}) Refusal → List ℕ → Type 0
IsNoted h times at (Ok done) new = (is_back times at ≡ false) × (new ≡ with_time h.events times at)
IsNoted h times at (Err r) new = (r ≡ cond (is_back times at) ClockBack Memory) × (new ≡ times)

-- the realm stays as it is
pub record TakesTime (old : TimedRealm) (at : ℕ) (answer : ℤ) (new : Option TimedRealm) : Type 0 where
  pub timed : TimedRealm
  pub holds : new ≡ Some timed
  pub realm : timed.realm ≡ old.realm
  pub reply : Result (Unit {0}) Refusal
  pub noted : IsNoted old.realm.history old.times.items at reply timed.times.items
  pub number : answer ≡ number_of (λ done. pos 0) reply

abbrev pub NotesTime : Option TimedRealm → ℕ → ℤ → Option TimedRealm → Type 0
NotesTime None at answer new = Answers answer new
NotesTime (Some old) at answer new = TakesTime old at answer new

-- When the events of a history happened, by the looks that found them, and what says so.
use Rattle.std.specs.Prelude.{[], ℕ, ◌&&◌, ◌++◌, ◌-◌, ◌==◌, ◌∷◌, ◌≡◌, Bool, List, MatchResult, None, Option, Result, String, cond, length, nat_le, replicate, slice_get, string_bytes}
use Rattle.balkreyn.specs.Words.{History, Memory, Reached, Refusal, Times, WithTimes, known_clock, script_text, timed_text}
use Rattle.balkreyn.specs.Looks.{SaysWaits}

-- it is the script of the history with these times, and so the script itself but for comments; or there was no memory
abbrev pub SaysWhen : {Z : Type 0} → History → List ℕ → ℕ → Result (String Z) Refusal → Type 0
SaysWhen h times now result = MatchResult result (λ written. (string_bytes written ≡ timed_text h times now) × WithTimes (string_bytes written) (script_text h)) (λ refusal. refusal ≡ Memory)

-- ---- looks that count

-- the history has come so far: this is what its base has numbered, and so many events followed
abbrev pub HasReached : History → Reached → Type 0
HasReached h reached = (reached.scopes ≡ h.base.scopes) × (reached.tasks ≡ h.base.tasks) × (reached.events ≡ length h.events)

-- whether a history that has come so far goes on from the one of which these times are: if not, a retirement lies between
abbrev pub goes_on : Times → Reached → Bool
goes_on times reached = (times.scopes == reached.scopes && times.tasks == reached.tasks) && nat_le (length times.found.items) reached.events

abbrev pub staying : Times → Reached → List ℕ
staying times reached = cond (goes_on times reached) times.found.items []

-- the times of the events that were found before stay, and the others happened by this time; or there was no memory
abbrev pub IsNoted : Times → Times → Reached → ℕ → Result (Unit {0}) Refusal → Type 0
IsNoted old new reached at result = MatchResult result (λ _. new.found.items ≡ staying old reached ++ replicate (reached.events - length (staying old reached)) at) (λ refusal. refusal ≡ Memory)

-- the time of the latest event, if one was found
abbrev pub last_time : List ℕ → Option ℕ
last_time [] = None
last_time (at ∷ times) = slice_get (at ∷ times) (length times)

-- the same by a copy of this clock: how far the history has come is noted at the time that the clock reads then
pub record NotesNow {K : Type 0} (reads : K → K → ℕ → Type 0) (start : K) (old new : Times) (result : Result (Unit {0}) Refusal) (h : History) : Type 0 where
  pub last : K
  pub at : ℕ
  pub read : reads start last at
  pub reached : Reached
  pub has : HasReached h reached
  pub noted : IsNoted old new reached at result

-- and the tree with ages is of a look at the time that the clock reads then
pub record SaysAgesNow {K Z : Type 0} (reads : K → K → ℕ → Type 0) (start : K) (times : List ℕ) (result : Result (String Z) Refusal) (h : History) : Type 0 where
  pub last : K
  pub at : ℕ
  pub read : reads start last at
  pub says : SaysWaits (known_clock h times at) h result

-- and the script with times is of a look at the time that the clock reads then
pub record SaysWhenNow {K Z : Type 0} (reads : K → K → ℕ → Type 0) (start : K) (times : List ℕ) (result : Result (String Z) Refusal) (h : History) : Type 0 where
  pub last : K
  pub at : ℕ
  pub read : reads start last at
  pub says : SaysWhen h times at result

-- Over what nobody sleeps, and how long.
use Rattle.std.specs.Prelude.{ℕ, ◌≡◌, None, Option, Some, false, min}
use Rattle.realm_lock.specs.Words.{History, HoldsUp, IsOpenOf, Scope, Sign, Wanted, settled}

-- what is wanted isn't there after h, if it is a scope's: a task of the scope waits or runs
abbrev pub Lacks : History → Wanted → Type 0
Lacks h (Scope s until) = settled h s ≡ false
Lacks h (Sign cell bell) = Unit {0}

-- a task waits or runs of a scope that the close of scope s covers
pub record IsHeldUp (h : History) (s : ℕ) : Type 0 where
  pub actor : ℕ
  pub opens : IsOpenOf h actor s
  pub by : ℕ
  pub holds : HoldsUp h actor s by

-- the sooner of two moments, if there is one
abbrev pub sooner : Option ℕ → Option ℕ → Option ℕ
sooner None other = other
sooner (Some moment) None = Some moment
sooner (Some moment) (Some other) = Some (min moment other)

-- the nanoseconds in a millisecond
abbrev pub NANOS : ℕ
NANOS = 1_000_000

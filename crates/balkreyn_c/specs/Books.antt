-- What it is to open a realm in a book, and to close it.
use Rattle.std.specs.Prelude.{[], ℕ, ℤ, ◌≡◌, ◌⊎◌, None, Option, Some, pos}
use Rattle.balkreyn_c.specs.Words.{IsAllowed, Limits, Memory, TimedRealm, starting, the_start}
use Rattle.balkreyn_c.specs.Numbers.{bad_argument, has_realm, no_realm, refused}

-- the book holds a fresh realm of these limits, of which no time is noted
pub record IsFresh (scopes tasks load : ℕ) (answer : ℤ) (new : Option TimedRealm) : Type 0 where
  pub limits : Limits
  pub timed : TimedRealm
  pub scopes_are : limits.scopes ≡ scopes
  pub tasks_are : limits.tasks ≡ tasks
  pub load_is : limits.load ≡ load
  pub number : answer ≡ pos 0
  pub realm : timed.realm ≡ starting limits the_start
  pub times : timed.times.items ≡ []
  pub holds : new ≡ Some timed

-- a limit is not allowed
pub record IsRefused (scopes tasks load : ℕ) (answer : ℤ) (new : Option TimedRealm) : Type 0 where
  pub bad : IsAllowed scopes tasks load → ⊥
  pub number : answer ≡ bad_argument
  pub none : new ≡ None

-- the limits are allowed, and memory was refused
pub record WantsMemory (scopes tasks load : ℕ) (answer : ℤ) (new : Option TimedRealm) : Type 0 where
  pub allowed : IsAllowed scopes tasks load
  pub number : answer ≡ refused Memory
  pub none : new ≡ None

pub record HasOne (old : TimedRealm) (answer : ℤ) (new : Option TimedRealm) : Type 0 where
  pub number : answer ≡ has_realm
  pub kept : new ≡ Some old

abbrev pub OpensBook : Option TimedRealm → ℕ → ℕ → ℕ → ℤ → Option TimedRealm → Type 0
OpensBook None scopes tasks load answer new = IsFresh scopes tasks load answer new ⊎ (IsRefused scopes tasks load answer new ⊎ WantsMemory scopes tasks load answer new)
OpensBook (Some old) scopes tasks load answer new = HasOne old answer new

-- whether there was one to be closed
abbrev pub closing_number : Option TimedRealm → ℤ
closing_number None = no_realm
closing_number (Some timed) = pos 0

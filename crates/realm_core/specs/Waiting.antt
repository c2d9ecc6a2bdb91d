-- Which scopes a close waits for.
use Rattle.std.specs.Prelude.{ℕ, ◌≡◌, ◌≤◌, None, Option, Some, false, true}
use Rattle.realm_core.specs.Words.{History, Opening, closed, opening, settled}

-- the actor opened scope s, and has not closed it
pub record IsOpenOf (h : History) (a s : ℕ) : Type 0 where
  pub opened : Opening
  pub is : opening h s ≡ Some opened
  pub by : opened.actor ≡ a
  pub unclosed : closed h s ≡ false

-- scope t is one of those that the actor's close of scope s covers, and a task of it waits or runs
pub record HoldsUp (h : History) (a s t : ℕ) : Type 0 where
  pub of : IsOpenOf h a t
  pub from : s ≤ t
  pub busy : settled h t ≡ false

-- no task waits or runs of scope s, which was opened so, and of what its owner opened later and has not
-- closed
abbrev pub AreSettled : History → ℕ → Opening → Type 0
AreSettled h s o = (t : ℕ) (x : Opening) → opening h t ≡ Some x → x.actor ≡ o.actor → s ≤ t → closed h t ≡ false → settled h t ≡ true

-- of a scope that is not closed: a scope that holds up its close, or none if no task of those that the
-- close covers waits or runs
abbrev pub FoundUnsettled : History → ℕ → Option ℕ → Type 0
FoundUnsettled h s (Some t) = (o : Opening) → opening h s ≡ Some o → closed h s ≡ false → HoldsUp h o.actor s t
FoundUnsettled h s None = (o : Opening) → opening h s ≡ Some o → closed h s ≡ false → AreSettled h s o

-- What holds of marks that views accepted.
use Rattle.std.specs.Prelude.{ℕ, ◌++◌, ◌≡◌, List}
use Rattle.realm_lock.specs.Words.{Cause, IsLegal, IsMarkOf, Limits, RealmStep, history_of}

-- what is a mark of a scope after a list of steps, and what is one after a list that goes on from that, are equal
abbrev pub AcceptedMarksAgree : Type 0
AcceptedMarksAgree = (L : Limits) (seen more : List RealmStep) (s : ℕ) (first then : Cause) (at place : ℕ) → IsLegal L (seen ++ more) → IsMarkOf (history_of seen) s first at → IsMarkOf (history_of (seen ++ more)) s then place → (first ≡ then) × (at ≡ place)

-- The ends of a close: the scopes inside a scope are closed first, the latest first, and then the scope.
use Rattle.std.specs.Prelude.{[], ℕ, ◌++◌, ◌<◌, ◌∷◌, ◌≡◌, ◌≢◌, List, Some, map}
use Rattle.realm_core.specs.Words.{EndClose, Happened, History, IsLegal, Limits, RealmStep, followed, history_of, innermost}
use Rattle.realm_core.specs.Endings.{CanClose}

-- the actor's end of the close of scope t
abbrev pub end_step : ℕ → ℕ → RealmStep
end_step a t = Happened (EndClose a t)

-- what the ends of these scopes leave
abbrev pub ended : History → ℕ → List ℕ → History
ended h a [] = h
ended h a (t ∷ ts) = ended (followed h (EndClose a t)) a ts

-- each is the actor's innermost scope by the time that its end comes: the latest that it opened and has
-- not closed
abbrev pub AreInnermost : History → ℕ → List ℕ → Type 0
AreInnermost h a [] = Unit {0}
AreInnermost h a (t ∷ ts) = (innermost h a ≡ Some t) × AreInnermost (followed h (EndClose a t)) a ts

-- the scopes inside scope s that the actor has not closed, in the order in which they can be closed, and
-- then s
abbrev pub InEndOrder : History → ℕ → ℕ → List ℕ → Type 0
InEndOrder h a s nested = AreInnermost h a (nested ++ s ∷ [])

-- the steps after `old` are the ends of these scopes and then of s, each of the actor's innermost scope
pub record Ends (L : Limits) (a s : ℕ) (nested : List ℕ) (old new : List RealmStep) : Type 0 where
  pub are : new ≡ old ++ map (end_step a) (nested ++ s ∷ [])
  pub ordered : InEndOrder (history_of old) a s nested
  pub legal : IsLegal L new

-- the one step after `old` is the end of scope t, the actor's innermost; unless that is s, the close of s
-- can still end, and what is innermost then was opened before t
pub record EndsInnermost (L : Limits) (a s t : ℕ) (old new : List RealmStep) : Type 0 where
  pub inner : innermost (history_of old) a ≡ Some t
  pub is : new ≡ old ++ end_step a t ∷ []
  pub legal : IsLegal L new
  pub still : t ≢ s → CanClose (history_of new) a s
  pub lower : (v : ℕ) → innermost (history_of new) a ≡ Some v → v < t

-- What lay around a scope as it was opened, and how it is found by number.
use Rattle.std.specs.Prelude.{◌+◌, ◌<◌, ◌≡◌, ◌≤◌}
use Rattle.run_picture.specs.Words.{ℕ, HasFirsts, History, Landmark, List, Nest, None, Opening, Option, Owns, Some, before, closed, get_or, innermost, length, opened_count}
use Rattle.run_picture.specs.Words.{opening, option_and_then, true, unwrap_or}

-- the innermost scope of the actor that opened scope s, just before it did
abbrev pub own_around : History → ℕ → Option ℕ
own_around h s = option_and_then (λ o. innermost (before h o.place) o.actor) (opening h s)

-- these are those scopes, for the first n scopes since the base
pub record AreOwns (owns : List (Option ℕ)) (h : History) (n : ℕ) : Type 0 where
  pub long : length owns ≡ n
  pub each : (k : ℕ) → k < n → get_or owns k None ≡ own_around h (h.base.scopes + 1 + k)

-- they are those of all scopes since the base
pub record HasOwns (owns : Owns) (h : History) : Type 0 where
  pub from : owns.before ≡ h.base.scopes
  pub all : AreOwns owns.scopes.items h (opened_count h)

-- the actor opened scope c in h
pub record IsOpenedBy (h : History) (a c : ℕ) : Type 0 where
  pub opened : Opening
  pub is : opening h c ≡ Some opened
  pub by : opened.actor ≡ a

-- of the first n scopes since the base, it is the last one that the actor opened
pub record IsLastOf (h : History) (n a : ℕ) (last : Option ℕ) : Type 0 where
  pub later : (t : ℕ) (o : Opening) → opening h t ≡ Some o → o.actor ≡ a → t ≤ h.base.scopes + n → t ≤ unwrap_or last 0
  pub opened : (c : ℕ) → last ≡ Some c → IsOpenedBy h a c
  pub within : (c : ℕ) → last ≡ Some c → c ≤ h.base.scopes + n

-- at the place, the actor had closed all that it had opened behind the scope, or all, if it is none
pub record IsSearched (h : History) (place a : ℕ) (from : Option ℕ) : Type 0 where
  pub later : (t : ℕ) (o : Opening) → opening (before h place) t ≡ Some o → o.actor ≡ a → unwrap_or from 0 < t → closed (before h place) t ≡ true
  pub opened : (c : ℕ) → from ≡ Some c → IsOpenedBy (before h place) a c

-- it finds the last one for each actor
pub record AreLasts (find : ℕ → Option ℕ) (h : History) (n : ℕ) : Type 0 where
  pub each : (a : ℕ) → IsLastOf h n a (find a)

-- the places of the closes, and those scopes
pub record IsNestOf (nest : Nest) (h : History) : Type 0 where
  pub closes : HasFirsts nest.closes Landmark.Closed h.events h.base.scopes (opened_count h)
  pub owns : HasOwns nest.owns h

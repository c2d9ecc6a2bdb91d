-- Where scopes begin to close, by a close of their own or by one that covers them.
use Rattle.std.specs.Prelude.{◌+◌, ◌<◌, ◌≡◌, if◌then◌else◌}
use Rattle.run_picture.specs.Words.{ℕ, Firsts, History, Landmark, None, Option, Some, closing_at, earliest, first_place, get_or, length, min, option_and_then, suc, zero}
use Rattle.run_picture.specs.Arounds.{own_around}

-- the place i, if a close that covers scope s begins there
abbrev pub covered_at : History → ℕ → ℕ → Option ℕ
covered_at h s i = if closing_at h s i then Some i else None

-- the place of the first event at which a close begins that covers scope s: its own, or another's
unfoldable pub closing_place : History → ℕ → Option ℕ
closing_place h s = earliest (covered_at h s) (length h.events)

-- the sooner of two places, if there is one
abbrev pub sooner : Option ℕ → Option ℕ → Option ℕ
sooner None right = right
sooner (Some left) None = Some left
sooner (Some left) (Some right) = Some (min left right)

-- where scope s begins to close, as it is found within so many scopes: where its own close begins, or before with what its
-- owner had open around it
unfoldable pub closing_within : History → ℕ → ℕ → Option ℕ
closing_within h zero s = None
closing_within h (suc n) s = sooner (first_place Landmark.Began h.events s) (option_and_then (closing_within h n) (own_around h s))

-- the same within all scopes around it; in a legal history it is the closing place
abbrev pub begins_to_close : History → ℕ → Option ℕ
begins_to_close h s = closing_within h (suc s) s

-- these are those places, for the first n scopes since the base
pub record AreClosings (closings : Firsts) (h : History) (n : ℕ) : Type 0 where
  pub from : closings.before ≡ h.base.scopes
  pub long : length closings.places.items ≡ n
  pub each : (k : ℕ) → k < n → get_or closings.places.items k None ≡ begins_to_close h (h.base.scopes + 1 + k)

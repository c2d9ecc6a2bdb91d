-- Which scopes a cancel reaches, and in which order its walk visits them.
use Rattle.std.specs.Prelude.{[], ℕ, ◌&&◌, ◌<◌, ◌==◌, ◌||◌, ◌∷◌, ◌≡◌, Bool, List, None, Option, Some, cond, false, is_none, length, nat_le, slice_get, suc, true, zero}
use Rattle.cancel_tree.specs.Words.{FirstCancel, chain_by}

abbrev pub head_is : ℕ → List ℕ → Bool
head_is s [] = false
head_is s (p ∷ ps) = p == s

-- on the way along the scopes to s none has an own cancel, and the last before s has the number k or a greater one
abbrev pub leads : (ℕ → Option FirstCancel) → ℕ → ℕ → List ℕ → Bool
leads own s k [] = false
leads own s k (t ∷ ts) = (t == s) || (is_none (own t) && cond (head_is s ts) (nat_le k t) (leads own s k ts))

-- t is s, or lies within s, by way of the inner scopes of s from number k on, and no scope on the way has an own cancel
unfoldable pub reached : (ℕ → Option ℕ) → (ℕ → Option FirstCancel) → ℕ → ℕ → ℕ → Bool
reached outer own s k t = leads own s k (chain_by outer t)

abbrev pub is_scope : Option ℕ → ℕ → Bool
is_scope None s = false
is_scope (Some p) s = p == s

-- the inner scope of s with the greatest number up to n
abbrev pub last_inner : (ℕ → Option ℕ) → ℕ → ℕ → Option ℕ
last_inner outer s zero = None
last_inner outer s (suc n) = cond (is_scope (outer (suc n)) s) (Some (suc n)) (last_inner outer s n)

-- the first cancel is put if the test says so, and nothing else is changed
abbrev pub IsSpread : (ℕ → Bool) → FirstCancel → List (Option FirstCancel) → List (Option FirstCancel) → Type 0
IsSpread test first_cancel old new = (i : ℕ) → i < length old → slice_get new i ≡ cond (test (suc i)) (Some (Some first_cancel)) (slice_get old i)

-- whether the place is at or before that of the first cancel, or there is none
abbrev pub is_at_or_before : ℕ → Option FirstCancel → Bool
is_at_or_before number None = true
is_at_or_before number (Some first_cancel) = nat_le number first_cancel.place

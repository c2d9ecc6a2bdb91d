-- How long a log can get.
use Rattle.std.proofs.Common.{[], ℕ, ◌+◌, ◌<◌, ◌^◌, ◌∷◌, ◌≡◌, ◌≤◌, arith, length, length-append, refl}
use Rattle.scope_log.specs.{History, IsWithin, LOAD_LIMIT, Legal, Limits, Origin, entries, load, missing, owed}
use Rattle.scope_log.proofs.Words.{along, load_push, owed_event}
use Rattle.scope_log.proofs.MarkPlaces.{entries_short}

owed_start : (b : Origin) → owed (record { base = b; events = [] }) ≡ 0
unfolding owed missing
owed_start b = refl

-- the load of a legal history covers its events, and those that may still come at no cost
covered : (L : Limits) (h : History) → Legal L h → length h.events + owed h ≤ load h
covered L h legal = along L (λ g. length g.events + owed g ≤ load g) (λ b. omega (arith, owed_start b)) (λ g e lawful ok so. omega (arith, so, owed_event L g e ok, load_push g e, length-append g.events (e ∷ []))) h legal

-- the entries of a scope, and one more, are fewer than 2 ^ 32
pub entries_small : (L : Limits) (h : History) (s : ℕ) → Legal L h → IsWithin L h → L.load ≤ LOAD_LIMIT → length (entries h s) + 1 < 2 ^ 32
entries_small L h s legal within limit = omega (arith, covered L h legal, entries_short h s, within.loaded, limit)

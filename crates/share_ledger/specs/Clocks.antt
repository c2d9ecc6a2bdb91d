-- What options by a span are.
use Rattle.std.specs.Prelude.{ℕ, ◌+◌, ◌-◌, ◌^◌, ◌≡◌, Some, false, min}
use Rattle.share_ledger.specs.Words.{Expiry, Options}

-- no shield, and a deadline so long after the moment, or the last moment of all
abbrev pub IsAfter : ℕ → ℕ → Expiry → Options → Type 0
IsAfter now span expiry options = options ≡ record { deadline = Some (min (now + span) (2 ^ 64 - 1)); expiry = expiry; shield = false }

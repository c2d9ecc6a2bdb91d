-- What queries answer that the rules have no word of their own for.
use Rattle.scope_checks.specs.Words.{ℕ, Cause, History, Option, cancelled_at, cause, option_and_then, option_map}

-- the place of the event by which scope s became cancelled, and why, if it is
abbrev pub cancellation : History → ℕ → Option (ℕ × Cause)
cancellation h s = option_and_then (λ at. option_map (λ c. (at, c)) (cause h s)) (cancelled_at h s)

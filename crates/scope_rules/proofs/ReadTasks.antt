-- What may be read was joined.
use Rattle.std.proofs.Common.{ℕ, ◌≡◌, None, Ok, Option, Some, false, refl, true}
use Rattle.scope_rules.specs.{Forking, History.History, Scopes.joined, WasJoined, forking, option_map_or, reading_check, reading_row, refusal_of}
use Rattle.scope_rules.proofs.Accepted.{checks_at, not_not, not_refused}

was_joined : (h : History) (k : ℕ) (o : Option Forking) → forking h k ≡ o → option_map_or (λ f. joined h f.scope) o false ≡ true → WasJoined h k
was_joined h k None is told = absurd cc
was_joined h k (Some f) is told = record { forked = f; is = is; joined = told }

pub read_joined : (h : History) (a k : ℕ) → reading_check h a k ≡ Ok tt → WasJoined h k
unfolding reading_check
read_joined h a k passed = was_joined h k (forking h k) refl (not_not _ (not_refused _ _ (checks_at (reading_row refusal_of h a k) 3 _ passed refl)))

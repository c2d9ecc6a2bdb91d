-- A scope that was never opened is not cancelled.
use Rattle.std.proofs.Common.{ℕ, ◌≡◌, None, ap, false, is_some, refl}
use Rattle.scope_index.specs.{History, first_cancel, is_cancelled, opening}
use Rattle.scope_index.proofs.Words.{IsOpened, cancel_opened}
use Rattle.scope_index.proofs.OpenSteps.{none_by}

pub never : (h : History) (s : ℕ) → opening h s ≡ None → IsOpened h s → ⊥
never h s none it = absurd (cc (it.is, none))

pub no_first_cancel : (h : History) (s : ℕ) → opening h s ≡ None → first_cancel h s ≡ None
no_first_cancel h s none = none_by (first_cancel h s) (λ c is. never h s none (cancel_opened h s c (opening h s) is refl))

pub uncancelled : (h : History) (s : ℕ) → opening h s ≡ None → is_cancelled h s ≡ false
unfolding is_cancelled
uncancelled h s none = ap is_some (no_first_cancel h s none)

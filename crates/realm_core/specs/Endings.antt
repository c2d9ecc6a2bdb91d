-- When the close of a scope can end.
use Rattle.std.specs.Prelude.{ℕ, ◌<◌, ◌≡◌, ◌≢◌, ◌≤◌, Some, false, true}
use Rattle.realm_core.specs.Words.{EndClose, History, Legal, Limits, Opening, closed, closing, followed, innermost, opening, settled}

-- scope s is the actor's innermost one, its close has begun, and none of its tasks waits or runs
pub record CanEnd (h : History) (a s : ℕ) : Type 0 where
  pub opened : Opening
  pub is : opening h s ≡ Some opened
  pub by : opened.actor ≡ a
  pub begun : closing h s ≡ true
  pub unclosed : closed h s ≡ false
  pub innermost : innermost h a ≡ Some s
  pub settled : settled h s ≡ true

-- the actor's close of scope s can end: it has begun, and of each scope that the actor opened
-- from s on and has not closed no task waits or runs
pub record CanClose (h : History) (a s : ℕ) : Type 0 where
  pub opened : Opening
  pub is : opening h s ≡ Some opened
  pub by : opened.actor ≡ a
  pub begun : closing h s ≡ true
  pub unclosed : closed h s ≡ false
  pub done : (t : ℕ) (x : Opening) → opening h t ≡ Some x → x.actor ≡ a → s ≤ t → closed h t ≡ false → settled h t ≡ true

-- such a close goes on with scope t, the actor's innermost: that can end, and after it the close can still
-- come to its end, unless it was s itself; and what is innermost then was opened earlier
pub record CloseGoesOn (h : History) (a s t : ℕ) : Type 0 where
  pub can_end : CanEnd h a t
  pub still : t ≢ s → CanClose (followed h (EndClose a t)) a s
  pub lower : (v : ℕ) → innermost (followed h (EndClose a t)) a ≡ Some v → v < t

abbrev pub ClosesGoOn : Type 0
ClosesGoOn = (L : Limits) (h : History) (a s t : ℕ) → Legal L h → CanClose h a s → innermost h a ≡ Some t → CloseGoesOn h a s t

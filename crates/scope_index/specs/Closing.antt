-- What the beginning of a close makes of cancels.
use Rattle.std.specs.Prelude.{ℕ, ◌≡◌, Option, length}
use Rattle.scope_index.specs.Words.{Accepts, AreRowsOf, BeginClose, History, Legal, Limits, RowTable, followed, innermost}
use Rattle.scope_index.specs.{CancelTables.CancelTable, CancelsOf.AreCancelsOf}

-- rows and cancels are those of a history of this length, in which the close of scope s may begin, by the
-- owner whose innermost scope this is
pub record CanClose (rows : RowTable) (cancels : CancelTable) (from : Option ℕ) (s place : ℕ) : Type 0 where
  pub limits : Limits
  pub history : History
  pub actor : ℕ
  pub legal : Legal limits history
  pub accepted : Accepts limits history (BeginClose actor s)
  pub told_rows : AreRowsOf history rows
  pub told_cancels : AreCancelsOf history cancels
  pub first : from ≡ innermost history actor
  pub at : place ≡ length history.events

-- of each such history, the new cancels are those with the beginning of the close
abbrev pub HasBegunClose : RowTable → CancelTable → CancelTable → Option ℕ → ℕ → ℕ → Type 0
HasBegunClose rows old new from s place =
    (L : Limits) (h : History) (actor : ℕ) → Legal L h → Accepts L h (BeginClose actor s) → AreRowsOf h rows → AreCancelsOf h old → from ≡ innermost h actor → place ≡ length h.events → AreCancelsOf (followed h (BeginClose actor s)) new

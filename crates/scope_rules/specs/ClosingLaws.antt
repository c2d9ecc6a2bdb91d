-- What closing leaves: nothing of a closed scope goes on, and nothing without a scope of main.
use Rattle.std.specs.Prelude.{ℕ, ◌↔◌, ◌≡◌, None, Some, slice_get, true}
use Rattle.scope_rules.specs.Words.{BeginClose, Limits, Violated}
use Rattle.scope_rules.specs.{History.History, History.before, Legal.Legal, Scopes.closed, Scopes.covers, Scopes.innermost, Scopes.parent, Tasks.is_settled, Tasks.settled, Tasks.stage, Verdicts.verdict}

-- scope t lies inside scope s: s is its parent, or its parent lies inside s. Shields do not matter.
pub data LiesInside (h : History) (s : ℕ) : ℕ → Type 0 where
  directly : {t : ℕ} → parent h t ≡ Some s → LiesInside h s t
  further : {t p : ℕ} → parent h t ≡ Some p → LiesInside h s p → LiesInside h s t

-- none of the tasks of scope s waits or runs, and each scope inside it is closed
pub record IsWhole (h : History) (s : ℕ) : Type 0 where
  pub settled : settled h s ≡ true
  pub inside : (t : ℕ) → LiesInside h s t → closed h t ≡ true

-- a closed scope is whole
abbrev pub ClosedScopeIsWhole : Type 0
ClosedScopeIsWhole = (L : Limits) (h : History) (s : ℕ) → Legal L h → closed h s ≡ true → IsWhole h s

-- if main has no scope that isn't closed, no task waits or runs
abbrev pub NothingRunsWithoutAScopeOfMain : Type 0
NothingRunsWithoutAScopeOfMain = (L : Limits) (h : History) (k : ℕ) → Legal L h → innermost h 0 ≡ None → is_settled (stage h k) ≡ true

-- a close of scope s began for itself, and covered another scope
pub record CoveredAnother (h : History) (s : ℕ) : Type 0 where
  pub place : ℕ
  pub actor : ℕ
  pub began : slice_get h.events place ≡ Some (BeginClose actor s)
  pub other : ℕ
  pub apart : other ≡ s → ⊥
  pub covered : covers (before h place) s other ≡ true

-- a scope was closed out of order exactly if its own close covered another
abbrev pub ViolatedIfItCoveredAnother : Type 0
ViolatedIfItCoveredAnother = (h : History) (s : ℕ) → (verdict h s ≡ Violated) ↔ CoveredAnother h s

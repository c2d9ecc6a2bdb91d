-- When what is kept of cancels is a history's.
use Rattle.std.specs.Prelude.{ℕ, ◌+◌, ◌≡◌, List, Option, Some, false, length, option_map, slice_get}
use Rattle.scope_index.specs.Words.{History, IsInOrder, JoinerStanding, Legal, Limits, Move, Open, Opening, Options, Policy, ScopeNode, StandsFor, cancelled_at, completions, counting_deadline, followed, is_cancelled, joined}
use Rattle.scope_index.specs.Words.{moment, opened_count, opening, own_cancel, shifted, surrounding}
use Rattle.scope_index.specs.CancelTables.{CancelTable}
use Rattle.scope_rules.specs.Scopes as scopes
use Rattle.cancel_tree.specs.Rows as rows

-- the row is that of scope s, if the rows are numbered after b: the scope around it, the one whose
-- cancels reach it, the place of its opening, its own cancel, and its deadline while that counts
pub record IsNodeOf (h : History) (b s : ℕ) (t : ScopeNode) : Type 0 where
  pub opened : Opening
  pub is : opening h s ≡ Some opened
  pub place : opened.place ≡ t.opened
  pub parent : scopes.parent h s ≡ option_map (λ p. b + p) t.parent
  pub outer : scopes.outer h s ≡ option_map (λ p. b + p) (rows.outer t)
  pub own : own_cancel h s ≡ option_map (shifted b) t.own
  pub deadline : counting_deadline h s ≡ t.deadline

-- the account is that of scope s: of its joiner, and of its completions
pub record IsAccountOf (h : History) (s : ℕ) (a : JoinerStanding) : Type 0 where
  pub opened : Opening
  pub is : opening h s ≡ Some opened
  pub policy : a.policy ≡ opened.policy
  pub stands : StandsFor a (completions h s)

-- the moment, the rows and the accounts are the history's
pub record AreCancelsOf (h : History) (t : CancelTable) : Type 0 where
  pub numbered : t.before ≡ h.base.scopes
  pub moment : t.moment ≡ moment h
  pub count : length t.nodes ≡ opened_count h
  pub counted : length t.accounts ≡ opened_count h
  pub rows : (n : ℕ) (row : ScopeNode) → rows.row t.nodes n ≡ Some row → IsNodeOf h t.before (t.before + n) row
  pub accounts : (i : ℕ) (a : JoinerStanding) → slice_get t.accounts i ≡ Some a → IsAccountOf h (t.before + 1 + i) a

-- the new table is that of each history whose table the old one was, with the move of an unjoined scope's
-- deadline at this place
abbrev pub IsMoved : CancelTable → CancelTable → ℕ → Option ℕ → ℕ → Type 0
IsMoved old new s deadline place = (L : Limits) (h : History) → Legal L h → AreCancelsOf h old → place ≡ length h.events → joined h s ≡ false → AreCancelsOf (followed h (Move s deadline)) new

-- the same with the opening of a scope
abbrev pub IsOpened : CancelTable → CancelTable → Option ℕ → Policy → Options → ℕ → Type 0
IsOpened old new parent policy options place =
    (L : Limits) (h : History) (actor : ℕ) → Legal L h → AreCancelsOf h old → place ≡ length h.events → parent ≡ surrounding h actor → AreCancelsOf (followed h (Open actor policy options)) new

-- the list is that of the history's cancelled scopes in order of their cancellation
abbrev pub IsCancelOrderOf : History → List ℕ → Type 0
IsCancelOrderOf h list = IsInOrder (is_cancelled h) (cancelled_at h) list

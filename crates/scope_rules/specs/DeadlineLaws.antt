-- What the deadline in effect is, in the words of the deadlines that count on a scope's chain.
use Rattle.std.specs.Prelude.{ℕ, ◌≡◌, ◌≤◌, None, Some, false, true}
use Rattle.scope_rules.specs.Words.{At, Contains, Effective, Past}
use Rattle.scope_rules.specs.{Cancels.counting_deadline, Cancels.effective, Cancels.is_cancelled, History.History, Scopes.chain, declared.types.answers.Effective.TheVariants.Never}

-- the deadline counts for a scope on the chain of scope s, and none that counts there is less
pub record IsLeastDeadline (h : History) (s d : ℕ) : Type 0 where
  pub scope : ℕ
  pub on_chain : Contains (chain h s) scope
  pub counts : counting_deadline h scope ≡ Some d
  pub least : (q e : ℕ) → Contains (chain h s) q → counting_deadline h q ≡ Some e → d ≤ e

-- past for a cancelled scope alone; else the least deadline that counts on the chain, or never if none does
abbrev pub IsInEffect : History → ℕ → Effective → Type 0
IsInEffect h s Past = is_cancelled h s ≡ true
IsInEffect h s (At d) = (is_cancelled h s ≡ false) × IsLeastDeadline h s d
IsInEffect h s Never = (is_cancelled h s ≡ false) × ((q : ℕ) → Contains (chain h s) q → counting_deadline h q ≡ None)

abbrev pub EffectiveIsLeast : Type 0
EffectiveIsLeast = (h : History) (s : ℕ) → IsInEffect h s (effective h s)

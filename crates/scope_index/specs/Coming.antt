-- The deadline of a realm that comes next.
use Rattle.std.specs.Prelude.{ℕ, ◌<◌, ◌≡◌, ◌≤◌, Some, false}
use Rattle.scope_index.specs.Words.{History, closed, counting_deadline, is_cancelled, moment}

-- the deadline of scope s is to come and can do something: the scope isn't joined, closed or cancelled
pub record IsComing (h : History) (s deadline : ℕ) : Type 0 where
  pub counts : counting_deadline h s ≡ Some deadline
  pub unclosed : closed h s ≡ false
  pub live : is_cancelled h s ≡ false
  pub coming : moment h < deadline

-- it comes to some scope, and none comes earlier
pub record IsNextDeadline (h : History) (deadline : ℕ) : Type 0 where
  pub scope : ℕ
  pub comes : IsComing h scope deadline
  pub earliest : (s later : ℕ) → IsComing h s later → deadline ≤ later

-- none comes
abbrev pub NoDeadlineComes : History → Type 0
NoDeadlineComes h = (s deadline : ℕ) → IsComing h s deadline → ⊥

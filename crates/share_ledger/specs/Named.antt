-- A job with its label, as contracts see it.
use Rattle.share_ledger.specs.Words.{EndValue, LabelValue}

pub record NamedValue (J : Type 0) : Type 0 where
  pub label : LabelValue
  pub job : J

-- whatever the job may answer fits the label
abbrev pub Fits : {J : Type 0} → (LabelValue → EndValue → Type 0) → (J → EndValue → Type 0) → LabelValue → J → Type 0
Fits fitting may_end label job = (end : EndValue) → may_end job end → fitting label end

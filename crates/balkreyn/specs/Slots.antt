-- Results of a caller's own type: what is promised of one, and what a slot gives up.
use Rattle.std.specs.Prelude.{ℕ, ◌≡◌, Err, None, Ok, Result}
use Rattle.scope_rules.specs.declared.types.{answers.ForkReply.TheVariants.Never, refusals.Refusal.TheVariants.Unavailable}
use Rattle.balkreyn.specs.Words.{ForkReply, ForkWhy, ForksJob, LabelValue, Name, NotSuccess, OwnerValue, Reads, Refusal, Thread, Value, refusal_of, result_reply}

-- a job with a result of its own type, under its name
pub record NamedValue (J : Type 0) : Type 0 where
  pub name : Name
  pub job : J

-- a slot: under which name its job was forked, and what the fork was answered
pub record SlotValue : Type 0 where
  pub name : Name
  pub reply : ForkReply

-- the task that was forked, whether it got a thread or not
abbrev pub task_of : ForkReply → ℕ
task_of (Thread task) = task
task_of (Never task) = task

-- the label that has this name, and asks nothing of the end
abbrev pub label_of : Name → LabelValue
label_of name = record { name = name; due = None }

-- such a job's fork is refused, for this
pub record IsRefusedInto (old new : OwnerValue) (scope : ℕ) (name : Name) (refusal : Refusal) : Type 0 where
  pub why : ForkWhy
  pub forks : ForksJob old new scope (label_of name) (Err why)
  pub numbered : refusal ≡ refusal_of why

-- what a fork under this name did, whose refused job is dropped
abbrev pub ForksUnder : OwnerValue → OwnerValue → ℕ → Name → Result ForkReply Refusal → Type 0
ForksUnder old new scope name (Ok reply) = ForksJob old new scope (label_of name) (Ok reply)
ForksUnder old new scope name (Err refusal) = IsRefusedInto old new scope name refusal

-- what a fork into a slot did: it is the fork of a job with the slot's name, and the slot has what that was answered
abbrev pub ForksInto : OwnerValue → OwnerValue → ℕ → Name → Result SlotValue Refusal → Type 0
ForksInto old new scope name (Ok slot) = (slot.name ≡ name) × ForksJob old new scope (label_of name) (Ok slot.reply)
ForksInto old new scope name (Err refusal) = IsRefusedInto old new scope name refusal

-- what a slot gives up if the task's result was answered so: a value that its job may answer, or nothing, where
-- it was taken before; if the result was refused, that refusal
abbrev pub IsGiven : {V : Type 0} → (V → Type 0) → Result Value Refusal → Result V Refusal → Type 0
IsGiven may (Ok number) (Ok value) = may value
IsGiven may (Ok number) (Err refusal) = refusal ≡ Unavailable
IsGiven may (Err refused) (Ok value) = ⊥
IsGiven may (Err refused) (Err refusal) = refusal ≡ refused

-- what a slot says of a job that has ended, if the task's result was answered so: a value that its job may answer, of one
-- that failed its job's own error, or nothing, if that was taken before; if the result was refused for another reason,
-- that refusal
abbrev pub IsSaid : {V E : Type 0} → (V → Type 0) → Result Value Refusal → Result (Result V E) Refusal → Type 0
IsSaid may (Ok number) (Ok (Ok value)) = may value
IsSaid may (Ok number) (Ok (Err error)) = ⊥
IsSaid may (Ok number) (Err refusal) = refusal ≡ Unavailable
IsSaid may (Err refused) (Ok (Ok value)) = ⊥
IsSaid may (Err refused) (Ok (Err error)) = refused ≡ NotSuccess
IsSaid may (Err refused) (Err refusal) = refusal ≡ refused

-- the task's result was asked for by the token's actor, and what it was answered decides what is said
pub record Says {V E : Type 0} (may : V → Type 0) (old new : OwnerValue) (task : ℕ) (result : Result (Result V E) Refusal) : Type 0 where
  pub asked : Result Value Refusal
  pub reads : Reads old new (λ h. asked ≡ result_reply h new.actor task)
  pub said : IsSaid may asked result

-- the task's result was asked for by the token's actor, and what it was answered by what the token has seen then
-- decides what is given
pub record Takes {V : Type 0} (may : V → Type 0) (old new : OwnerValue) (task : ℕ) (result : Result V Refusal) : Type 0 where
  pub asked : Result Value Refusal
  pub reads : Reads old new (λ h. asked ≡ result_reply h new.actor task)
  pub gives : IsGiven may asked result

-- What a command does that makes room in its context before it is begun.
use Rattle.std.specs.Prelude.{◌≡◌, ◌⊎◌, Err, Ok, Result}
use Rattle.job_runner.specs.Words.{Accepted, DoesOrMemory, History, Memory, OwnerValue, RealmStep, Refusal}

-- the context had no room: nothing was begun
pub record WithoutRoom (old new : OwnerValue) (refusal : Refusal) : Type 0 where
  pub same : new ≡ old
  pub memory : refusal ≡ Memory

-- what the realm's command does; or the context had no room
abbrev pub DoesInRoom : {A : Type 0} → OwnerValue → OwnerValue → RealmStep → (History → A) → Result A Refusal → Type 0
DoesInRoom old new x reply (Ok answer) = Accepted old new x reply answer
DoesInRoom old new x reply (Err refusal) = DoesOrMemory old new x reply (Err refusal) ⊎ WithoutRoom old new refusal

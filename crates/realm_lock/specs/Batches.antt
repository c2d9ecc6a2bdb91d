-- What a batch of forks did in one hold of the lock, and gave.
use Rattle.std.specs.Prelude.{[], ℕ, ◌++◌, ◌∷◌, ◌≡◌, ◌⊎◌, Err, List, Ok}
use Rattle.realm_lock.specs.Words.{Accepted, DoesOrMemory, Fork, Forked, GivesTicket, Happened, LabelValue, Looked, Memory, OwnerValue, Refusal, fork_reply, reply_of}

-- the token with the fork of this label as the very next step that it has seen
abbrev pub forking : OwnerValue → ℕ → LabelValue → OwnerValue
forking token s label = record token { seen = token.seen ++ Happened (Fork token.actor s label) ∷ [] }

-- the fork of this label is accepted as the very next step, and is answered as the rules reply there: with the
-- ticket of its own task, if that gets a thread
pub record ForksNext (token : OwnerValue) (s : ℕ) (label : LabelValue) (forked : Forked) : Type 0 where
  pub accepted : Accepted token (forking token s label) (Happened (Fork token.actor s label)) (λ h. fork_reply h s) (reply_of forked)
  pub gives : GivesTicket (forking token s label) s label (Ok forked)

-- each of the labels was forked, in their order, with no other step between, and was answered so; nothing else
-- was added
abbrev pub ForksEach : OwnerValue → OwnerValue → ℕ → List LabelValue → List Forked → Type 0
ForksEach old new s [] [] = new ≡ old
ForksEach old new s [] (f ∷ fs) = ⊥
ForksEach old new s (l ∷ ls) [] = ⊥
ForksEach old new s (l ∷ ls) (f ∷ fs) = ForksNext old s l f × ForksEach (forking old s l) new s ls fs

-- the token looked, and then each of the labels was forked
pub record ForksAll (old new : OwnerValue) (s : ℕ) (labels : List LabelValue) (forked : List Forked) : Type 0 where
  pub there : OwnerValue
  pub looked : Looked old there
  pub each : ForksEach there new s labels forked

-- so were the first labels, and the fork of the next one is refused as a fork is that comes then: it added nothing
pub record ForksSome (old new : OwnerValue) (s : ℕ) (labels : List LabelValue) (forked : List Forked) (refusal : Refusal) : Type 0 where
  pub first : List LabelValue
  pub next : LabelValue
  pub rest : List LabelValue
  pub are : labels ≡ first ++ next ∷ rest
  pub forks : ForksAll old new s first forked
  pub refused : DoesOrMemory new new (Happened (Fork new.actor s next)) (λ h. fork_reply h s) (Err refusal)

-- there was no room to list what a batch gives: nothing was done
pub record ForksNone (old new : OwnerValue) (forked : List Forked) (refusal : Refusal) : Type 0 where
  pub same : new ≡ old
  pub none : forked ≡ []
  pub memory : refusal ≡ Memory

-- what a batch of forks did that was refused before its end
abbrev pub ForksUpTo : OwnerValue → OwnerValue → ℕ → List LabelValue → List Forked → Refusal → Type 0
ForksUpTo old new s labels forked refusal = ForksSome old new s labels forked refusal ⊎ ForksNone old new forked refusal

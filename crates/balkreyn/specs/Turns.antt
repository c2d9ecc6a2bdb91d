-- What an owner does with a request, and what two owners hand to each other.
use Rattle.std.specs.Prelude.{ℕ, ◌≡◌, Result}
use Rattle.balkreyn.specs.Words.{First, ForkReply, Name, OwnerValue, Refusal, Second, Side, Thread}
use Rattle.balkreyn.specs.Slots.{ForksUnder}

-- the other of the two realms
abbrev pub other_side : Side → Side
other_side First = Second
other_side Second = First

-- a fork was answered with a thread
pub record IsThread (reply : ForkReply) : Type 0 where
  pub task : ℕ
  pub answered : reply ≡ Thread task

-- a job was forked under this name in scope s, whatever that was answered
pub record Tries (old new : OwnerValue) (scope : ℕ) (name : Name) : Type 0 where
  pub reply : Result ForkReply Refusal
  pub forks : ForksUnder old new scope name reply

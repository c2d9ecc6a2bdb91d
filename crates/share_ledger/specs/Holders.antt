-- Whose own a step is, and what a holder that has seen a beginning of the list knows of the rest.
use Rattle.std.specs.Prelude.{[], ℕ, ◌++◌, ◌==◌, ◌∷◌, ◌≡◌, Bool, List, false, true}
use Rattle.share_ledger.specs.Words.{Asked, BeginClose, Bind, Cancel, EndClose, Event, Finish, Fork, Happened, Holder, Join, Limits, Move, Open, RealmStep, Reject, Retirement, Start, Tick, TicketOf, TokenOf, Unbind, list_any}
use Rattle.share_ledger.specs.Steps.{IsLegal, Passes, history_of}

-- the event is of the actor: it acted, or it is the task that started or ended. A cancel, a move and a tick
-- that don't say who asked are of every actor: so nobody can take them, and they stand in no list.
abbrev pub is_of_actor : ℕ → Event → Bool
is_of_actor a (Open actor policy options) = actor == a
is_of_actor a (Fork actor scope label) = actor == a
is_of_actor a (Start task) = task == a
is_of_actor a (Finish task end) = task == a
is_of_actor a (Cancel scope) = true
is_of_actor a (Move scope deadline) = true
is_of_actor a (Tick now) = true
is_of_actor a (Bind actor pair) = actor == a
is_of_actor a (Unbind actor) = actor == a
is_of_actor a (Join actor scope) = actor == a
is_of_actor a (BeginClose actor scope) = actor == a
is_of_actor a (EndClose actor scope) = actor == a
is_of_actor a _ = false

-- the event is the reject, the start or the end of the task
abbrev pub is_of_task : ℕ → Event → Bool
is_of_task k (Reject task) = task == k
is_of_task k (Start task) = task == k
is_of_task k (Finish task end) = task == k
is_of_task k _ = false

-- the step is the holder's own: without it, nobody takes that step. A retirement is main's.
abbrev pub is_own : Holder → RealmStep → Bool
is_own (TokenOf a) (Happened e) = is_of_actor a e
is_own (TokenOf a) (Asked actor q) = actor == a
is_own (TokenOf a) Retirement = a == 0
is_own (TicketOf k) (Happened e) = is_of_task k e
is_own (TicketOf k) (Asked actor q) = false
is_own (TicketOf k) Retirement = false

-- what was seen is a beginning of the whole list, and no later step is the holder's own
pub record Agrees (who : Holder) (seen whole : List RealmStep) : Type 0 where
  pub later : List RealmStep
  pub is : whole ≡ seen ++ later
  pub others : list_any (is_own who) later ≡ false

-- a call that adds nothing: after it, what was seen is what was seen before, and then steps of others.
-- It is legal.
pub record Looks (who : Holder) (L : Limits) (old new : List RealmStep) : Type 0 where
  pub agrees : Agrees who old new
  pub legal : IsLegal L new

-- a call that adds one step: after it, what was seen is what was seen before, then steps of others,
-- and then exactly the step, which is accepted there. It is legal.
pub record Adds (who : Holder) (L : Limits) (old : List RealmStep) (x : RealmStep) (new : List RealmStep) : Type 0 where
  pub there : List RealmStep
  pub agrees : Agrees who old there
  pub is : new ≡ there ++ x ∷ []
  pub accepted : Passes L (history_of there) x
  pub legal : IsLegal L new

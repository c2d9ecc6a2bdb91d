-- What views and joins show.
use Rattle.std.specs.Prelude.{ℕ, ◌≡◌, ◌⊎◌, Err, Ok, Result, Some, option_map}
use Rattle.realm_core.specs.Words.{BareOutcome, Cause, Happened, History, Join, Joined, Memory, OwnerValue, Refusal, Unavailable, View, bare_of, cancelled_at, cause, counts, log, moment, outcome, scope_check}
use Rattle.realm_core.specs.Calls.{Added, OutOfMemory, Refused, SeesMore, history_seen}

-- the view is of scope s after h
pub record IsViewOf (h : History) (s : ℕ) (view : View) : Type 0 where
  pub logged : log h s ≡ Some view.log
  pub caused : view.cause ≡ cause h s
  pub counted : view.counts ≡ counts h s
  pub timed : view.moment ≡ moment h

-- scope s became cancelled for this cause, by the event at this place since the base
pub record IsMarkOf (h : History) (s : ℕ) (because : Cause) (number : ℕ) : Type 0 where
  pub caused : cause h s ≡ Some because
  pub placed : cancelled_at h s ≡ Some number

-- what a view of scope s answers after h: it is refused for an unknown scope, and if memory is
abbrev pub ViewAnswers : History → ℕ → Result View Refusal → Type 0
ViewAnswers h s (Ok view) = IsViewOf h s view
ViewAnswers h s (Err refusal) = (scope_check h s ≡ Err refusal) ⊎ ((scope_check h s ≡ Ok tt) × (refusal ≡ Memory))

-- what a view with a mark answers: it is refused also if the mark says something else than h
abbrev pub MarkedViewAnswers : History → ℕ → Cause → ℕ → Result View Refusal → Type 0
MarkedViewAnswers h s because number (Ok view) = IsViewOf h s view × IsMarkOf h s because number
MarkedViewAnswers h s because number (Err refusal) = (scope_check h s ≡ Err refusal) ⊎ (((scope_check h s ≡ Ok tt) × (IsMarkOf h s because number) × (refusal ≡ Memory)) ⊎ ((scope_check h s ≡ Ok tt) × (IsMarkOf h s because number → ⊥) × (refusal ≡ Unavailable)))

-- the log and the outcome are those of scope s after h
pub record IsJoinOf (h : History) (s : ℕ) (joined : Joined) : Type 0 where
  pub logged : log h s ≡ Some joined.log
  pub decided : outcome h s ≡ Some joined.outcome

-- what a join of scope s did: it is there, and the log and the outcome are those with it
abbrev pub DidJoin : OwnerValue → OwnerValue → ℕ → Result Joined Refusal → Type 0
DidJoin old new s (Ok joined) = Added old new (Happened (Join old.actor s)) × IsJoinOf (history_seen new) s joined
DidJoin old new s (Err refusal) = Refused old new (Happened (Join old.actor s)) refusal ⊎ OutOfMemory old new (Happened (Join old.actor s)) refusal

-- and nothing else of the token has changed
abbrev pub Joins : OwnerValue → OwnerValue → ℕ → Result Joined Refusal → Type 0
Joins old new s result = SeesMore old new × DidJoin old new s result

-- what a join of scope s did that tells its outcome without the lists: it is there, and the outcome is that with it;
-- it is never refused memory
abbrev pub DidJoinBare : OwnerValue → OwnerValue → ℕ → Result BareOutcome Refusal → Type 0
DidJoinBare old new s (Ok answer) = Added old new (Happened (Join old.actor s)) × (option_map bare_of (outcome (history_seen new) s) ≡ Some answer)
DidJoinBare old new s (Err refusal) = Refused old new (Happened (Join old.actor s)) refusal

-- and nothing else of the token has changed
abbrev pub JoinsBare : OwnerValue → OwnerValue → ℕ → Result BareOutcome Refusal → Type 0
JoinsBare old new s result = SeesMore old new × DidJoinBare old new s result

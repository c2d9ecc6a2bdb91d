-- What the keeper's seat and a badge know.
use Rattle.std.specs.Prelude.{[], ◌∷◌, ◌≡◌, List, unwrap_or}
use Rattle.std.proofs.Common.{lit≤}
use Rattle.share_ledger.specs.Words.{Holder, Holding, Keeping, LedgerView, Limits, RealmStep, Spent, TokenOf}
use Rattle.share_ledger.specs.{Holders.Agrees, Views.holding, Views.keeping, Views.newly_named}

-- what a seat knows that has no limits
abbrev pub least : Limits
least = record { scopes = 1; tasks = 1; load = 1; some_scopes = lit≤ tt; scopes_in_range = lit≤ tt; some_tasks = lit≤ tt; tasks_in_range = lit≤ tt; some_load = lit≤ tt; load_in_range = lit≤ tt }

-- the limits that a seat knows
abbrev pub limits_of : LedgerView → Limits
limits_of (Keeping L steps arrived hand) = L
limits_of (Holding share) = share.limits
limits_of _ = least

-- the steps that a seat knows
abbrev pub steps_of : LedgerView → List RealmStep
steps_of (Keeping L steps arrived hand) = steps
steps_of (Holding share) = share.seen
steps_of _ = []

-- the view of a badge, if it has one
abbrev pub view_of : List LedgerView → LedgerView
view_of [] = Spent
view_of (v ∷ vs) = v

-- the holders whose shares are in the keeper's hand
abbrev pub hand_of : LedgerView → List Holder
hand_of (Keeping L steps arrived hand) = hand
hand_of _ = []

-- whose share a seat is
abbrev pub holder_of : LedgerView → Holder
holder_of (Holding share) = share.holder
holder_of _ = TokenOf 0

-- the keeper's hand is as said, and nothing has just arrived
abbrev pub IsReady : LedgerView → List Holder → Type 0
IsReady v hand = v ≡ keeping (limits_of v) (steps_of v) hand

-- the badge is the share of the holder
abbrev pub IsShareOf : List LedgerView → Holder → Type 0
IsShareOf views who = views ≡ holding (limits_of (view_of views)) who (steps_of (view_of views)) ∷ []

-- the share agrees with what the keeper knows
abbrev pub IsKnown : List LedgerView → LedgerView → Type 0
IsKnown share keeper = (limits_of (view_of share) ≡ limits_of keeper) × Agrees (holder_of (view_of share)) (steps_of (view_of share)) (steps_of keeper)

-- the first in hand, and the others
abbrev pub first_in : List Holder → Holder
first_in [] = TokenOf 0
first_in (who ∷ hand) = who

abbrev pub others_in : List Holder → List Holder
others_in [] = []
others_in (who ∷ hand) = hand

-- whom the step newly names, if it names a holder
abbrev pub named_by : List RealmStep → RealmStep → Holder
named_by steps x = unwrap_or (newly_named steps x) (TokenOf 0)

-- What the keeper of a realm's list is told of a call, and what that leaves under the lock.
use Rattle.std.specs.Prelude.{[], ◌++◌, ◌∷◌, ◌≡◌, Bool, if◌then◌else◌}
use Rattle.realm_core.specs.Words.{KeeperValue, OwnerValue, RealmStep, TicketValue}
use Rattle.realm_core.specs.{Calls.SeesMore, Cores.CoreValue}

-- the keeper's list with the step, or as it was
abbrev pub told : KeeperValue → RealmStep → Bool → KeeperValue
told keeper x recorded = if recorded then record keeper { steps = keeper.steps ++ x ∷ [] } else keeper

-- the same of what lies under the lock
abbrev pub stepping : CoreValue → RealmStep → Bool → CoreValue
stepping core x recorded = if recorded then record core { steps = core.steps ++ x ∷ [] } else core

-- what lies under the lock afterwards is what the token has seen: the step more, or what it was
abbrev pub Stepped : CoreValue → CoreValue → OwnerValue → RealmStep → Bool → Type 0
Stepped old new token x recorded = (new ≡ record old { steps = token.seen }) × (new ≡ stepping old x recorded)

-- the same of a call with a ticket
abbrev pub TicketStepped : CoreValue → CoreValue → TicketValue → RealmStep → Bool → Type 0
TicketStepped old new ticket x recorded = (new ≡ record old { steps = ticket.seen }) × (new ≡ stepping old x recorded)

-- the same of a look, which adds nothing; and the limits are the token's
abbrev pub Shown : CoreValue → CoreValue → OwnerValue → Type 0
Shown old new token = (new ≡ record { limits = token.limits; steps = token.seen }) × (new ≡ old)

-- nothing else of the token has changed than what it has seen, and that is all that lies under the lock
abbrev pub SeesAll : CoreValue → CoreValue → OwnerValue → OwnerValue → Type 0
SeesAll old new token after = SeesMore token after × (new ≡ record old { steps = after.seen })

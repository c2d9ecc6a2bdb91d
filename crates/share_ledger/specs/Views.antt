-- What the seats of the table know, and how that changes.
use Rattle.std.specs.Prelude.{[], ◌++◌, ◌+◌, ◌∷◌, ◌≡◌, List, None, Option, Some, false}
use Rattle.share_ledger.specs.Words.{Fork, Happened, Holder, Holding, Keeping, LedgerView, Limited, Limits, Me, RealmStep, Said, Spent, Start, Stepped, TicketOf, TokenOf, list_any}
use Rattle.share_ledger.specs.{Holders.Agrees, Holders.is_own, Tickets.forks}
use mathlib.Core.Option as m

-- the keeper's view between two moves: nothing has just arrived
abbrev pub keeping : Limits → List RealmStep → List Holder → LedgerView
keeping L steps hand = Keeping L steps None hand

-- the view of a holder's seat
abbrev pub holding : Limits → Holder → List RealmStep → LedgerView
holding L who seen = Holding (record { limits = L; holder = who; seen = seen })

-- the holder that the step names, if it names one: a fork the ticket of its task, a start the token
abbrev pub newly_named : List RealmStep → RealmStep → Option Holder
newly_named steps (Happened (Fork actor scope label)) = Some (TicketOf (forks steps + 1))
newly_named steps (Happened (Start task)) = Some (TokenOf task)
newly_named steps _ = None

-- the hand with the holder that was newly named
abbrev pub with_named : Option Holder → List Holder → List Holder
with_named None hand = hand
with_named (Some who) hand = who ∷ hand

abbrev pub handed_in : LedgerView → LedgerView → LedgerView
handed_in (Keeping L steps arrived hand) (Holding share) = Keeping L steps (Some share) hand
handed_in v _ = v

abbrev pub left_in : LedgerView → LedgerView
left_in (Keeping L steps arrived (who ∷ hand)) = Keeping L steps arrived hand
left_in v = v

abbrev pub given_out : LedgerView → LedgerView
given_out (Keeping L steps arrived (who ∷ hand)) = holding L who steps
given_out _ = Spent

-- what the keeper is told when the realm gets its limits
abbrev pub TellsLimited : m.Option Said → Me Said LedgerView → Me Said LedgerView → Type 0
TellsLimited (m.some (Limited L)) before after = after ≡ (keeping L [] (TokenOf 0 ∷ []), before.1)
TellsLimited _ before after = Unit {0}

abbrev pub appended : RealmStep → LedgerView → LedgerView
appended x (Keeping L steps arrived hand) = Keeping L (steps ++ x ∷ []) arrived (with_named (newly_named steps x) hand)
appended x v = v

-- whom the step newly names has no step of its own before
abbrev pub IsFresh : List RealmStep → RealmStep → Type 0
IsFresh steps x = (who : Holder) → newly_named steps x ≡ Some who → list_any (is_own who) steps ≡ false

abbrev pub TellsFresh : RealmStep → LedgerView → Type 0
TellsFresh x (Keeping L steps arrived hand) = IsFresh steps x
TellsFresh x _ = Unit {0}

-- what the keeper is told when it appends the step that it says
abbrev pub TellsAppended : m.Option Said → Me Said LedgerView → Me Said LedgerView → Type 0
TellsAppended (m.some (Stepped x)) before after = (after ≡ (appended x before.0, before.1)) × TellsFresh x before.0
TellsAppended _ before after = Unit {0}

-- what the keeper is told of the share that was handed in: it agrees with the list
abbrev pub IsTold : LedgerView → LedgerView → Type 0
IsTold (Keeping L steps (Some share) hand) after = (after ≡ keeping L steps (share.holder ∷ hand)) × (share.limits ≡ L) × Agrees share.holder share.seen steps
IsTold _ after = Unit {0}

abbrev pub TellsLooked : Me Said LedgerView → Me Said LedgerView → Type 0
TellsLooked before after = IsTold before.0 after.0 × (after.1 ≡ before.1)

-- The rule of the table: a holder is named once, and its share agrees with the keeper's list.
use Rattle.std.specs.Prelude.{[], ℕ, ◌&&◌, ◌==◌, ◌||◌, ◌∷◌, ◌≡◌, ◌≢◌, Bool, List, None, Option, Some, false, nat_le, true}
use Rattle.share_ledger.specs.Words.{Holder, Holding, Keeping, LedgerView, Limits, Opening, RealmStep, Share, Spent, TicketOf, TokenOf, list_any}
use Rattle.share_ledger.specs.{Holders.Agrees, Holders.is_own, Tickets.forks, Tickets.started_in, Views.newly_named, Views.with_named}
use lib.ListN.{get_elem?}
use mathlib.Core.Option as m

-- the two holders are one
abbrev pub same_holder : Holder → Holder → Bool
same_holder (TokenOf a) (TokenOf b) = a == b
same_holder (TicketOf k) (TicketOf m) = k == m
same_holder _ _ = false

-- the list names the holder: main's token always, a task's token by its start, a ticket by its fork
abbrev pub is_named : Holder → List RealmStep → Bool
is_named (TokenOf a) steps = (a == 0) || started_in a steps
is_named (TicketOf k) steps = nat_le 1 k && nat_le k (forks steps)

-- the holder is none of these
abbrev pub Absent : Holder → List Holder → Type 0
Absent who [] = Unit {0}
Absent who (u ∷ us) = (u ≢ who) × Absent who us

-- the share is held at seat i
pub record IsHeld (limits : Option Limits) (whole : List RealmStep) (seat : Holder → ℕ) (i : ℕ) (share : Share) : Type 0 where
  pub at : seat share.holder ≡ i
  pub limited : limits ≡ Some share.limits
  pub agrees : Agrees share.holder share.seen whole
  pub named : is_named share.holder whole ≡ true

-- the holders' shares are in the keeper's hand, each once
abbrev pub InHand : ℕ → List RealmStep → (Holder → ℕ) → List Holder → Type 0
InHand place whole seat [] = Unit {0}
InHand place whole seat (who ∷ hand) = (seat who ≡ place) × (is_named who whole ≡ true) × Absent who hand × InHand place whole seat hand

-- what has just arrived is held by the keeper, beside the hand
abbrev pub HasArrived : ℕ → Option Limits → List RealmStep → (Holder → ℕ) → List Holder → Option Share → Type 0
HasArrived place limits whole seat hand None = Unit {0}
HasArrived place limits whole seat hand (Some share) = IsHeld limits whole seat place share × Absent share.holder hand

-- the keeper sits at its place, and knows the whole list
pub record IsKept (place : ℕ) (limits : Option Limits) (whole : List RealmStep) (seat : Holder → ℕ) (i : ℕ) (L : Limits) (steps : List RealmStep) (arrived : Option Share) (hand : List Holder) : Type 0 where
  pub at : i ≡ place
  pub limited : limits ≡ Some L
  pub all : steps ≡ whole
  pub arriving : HasArrived place limits whole seat hand arrived
  pub taken : InHand place whole seat hand

-- nobody but the keeper sits at the table
pub record IsOpening (place : ℕ) (seat : Holder → ℕ) (i : ℕ) : Type 0 where
  pub at : i ≡ place
  pub alone : (who : Holder) → seat who ≡ place

-- how the view of seat i fits
abbrev pub Fits : ℕ → Option Limits → List RealmStep → (Holder → ℕ) → ℕ → LedgerView → Type 0
Fits place limits whole seat i Opening = IsOpening place seat i
Fits place limits whole seat i (Keeping L steps arrived hand) = IsKept place limits whole seat i L steps arrived hand
Fits place limits whole seat i (Holding share) = IsHeld limits whole seat i share
Fits place limits whole seat i Spent = Unit {0}

-- there are the keeper's place, the limits, the whole list, and each holder's one seat, such that each
-- view fits; and who isn't named has no step of its own
pub record Ledger (views : List LedgerView) : Type 0 where
  pub place : ℕ
  pub limits : Option Limits
  pub whole : List RealmStep
  pub seat : Holder → ℕ
  pub fits : (i : ℕ) (v : LedgerView) → get_elem? views i ≡ m.some v → Fits place limits whole seat i v
  pub unnamed : (who : Holder) → is_named who whole ≡ false → list_any (is_own who) whole ≡ false

-- the keeper may append the step: whose own it is has its share in hand, or is newly named by it, and
-- who is newly named was not named before
pub record MayAppend (steps : List RealmStep) (hand : List Holder) (x : RealmStep) : Type 0 where
  pub owners : (who : Holder) → is_own who x ≡ true → list_any (same_holder who) (with_named (newly_named steps x) hand) ≡ true
  pub unnamed : (who : Holder) → newly_named steps x ≡ Some who → is_named who steps ≡ false

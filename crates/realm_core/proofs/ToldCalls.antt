-- What the command of an event did, in the words of the calls by name.
use Rattle.std.proofs.Common.{ℕ, ◌≡◌, Err, Ok, Result, false, refl}
use Rattle.realm_core.specs.{Accepted, Calls.noted, DidPerform, DidRecord, Event, EventReply, Happened, Open, Options, OwnerValue, Policy, Refusal, history_of, history_seen, next_scope, recorded, records, wants_memory}
use Rattle.realm_core.proofs.Performed.{refused_surely}
use Rattle.scope_checks.specs.declared.event_replies.EventReply.TheVariants as told

-- of the beginning of a close
pub records_surely : (old new : OwnerValue) (e : Event) (result : Result EventReply Refusal) → wants_memory (history_seen new) e ≡ false → DidPerform old new e result → DidRecord old new e (noted result)
records_surely old new e (Ok told.Already) none did = did
records_surely old new e (Ok answer) none did = did.adds
records_surely old new e (Err r) none did = refused_surely old new e r none did

-- of an open
pub open_told : (old new : OwnerValue) (a : ℕ) (p : Policy) (o : Options) (s : ℕ) → DidPerform old new (Open a p o) (Ok (told.Scope s)) → Accepted old new (Happened (Open a p o)) next_scope s
open_told old new a p o s did = record { adds = did.adds; replied = the_same s (next_scope (history_of did.adds.there)) did.replied }
  where
    the_same : (n m : ℕ) → told.Scope n ≡ told.Scope m → n ≡ m
    the_same n m is = cc

-- what was recorded is what was told so
pub recorded_told : (result : Result EventReply Refusal) → recorded (noted result) ≡ records result
recorded_told (Ok told.Already) = refl
recorded_told (Ok answer) = refl
recorded_told (Err r) = refl

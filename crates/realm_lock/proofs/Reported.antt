-- What a later hold of a close did, distinguished from where the close began.
use Rattle.std.proofs.Common.{ℕ, ◌≡◌, Err, IfOk, List, Ok, Option, Result, Some, subst}
use Rattle.share_ledger.specs.Holders.{Agrees}
use Rattle.realm_lock.specs.{CloseReport, EndsReported, MayReport, OwnerValue, RealmStep, Refusal, TicketValue, TokenOf}
use Rattle.realm_lock.proofs.Words.{agrees_on}

from_seen : (old new : OwnerValue) (xs : List RealmStep) (s : ℕ) (tickets left : List TicketValue) (result : Result CloseReport Refusal) → Agrees (TokenOf old.actor) old.seen xs → MayReport (record old { seen = xs }) new s tickets left (Some result) → IfOk result (λ report. EndsReported old new s tickets report)
from_seen old new xs s tickets left (Ok report) agrees it = record {
  there = it.there;
  looks = record { agrees = agrees_on (TokenOf old.actor) old.seen xs it.there.seen agrees it.looks.agrees; legal = it.looks.legal };
  same = it.same;
  done = it.done;
}
from_seen old new xs s tickets left (Err refusal) agrees it = tt

pub reported : (old now new : OwnerValue) (s : ℕ) (tickets given left : List TicketValue) (answer : Option (Result CloseReport Refusal)) (result : Result CloseReport Refusal)
    → now ≡ record old { seen = now.seen } → Agrees (TokenOf old.actor) old.seen now.seen → given ≡ tickets → answer ≡ Some result → MayReport now new s given left answer → IfOk result (λ report. EndsReported old new s tickets report)
reported old now new s tickets given left answer result same agrees handed is it =
    let told = subst (λ (x : Option (Result CloseReport Refusal)). MayReport now new s given left x) is it in
    let here = subst (λ (t : OwnerValue). MayReport t new s given left (Some result)) same told in
    from_seen old new now.seen s tickets left result agrees (subst (λ (ts : List TicketValue). MayReport (record old { seen = now.seen }) new s ts left (Some result)) handed here)

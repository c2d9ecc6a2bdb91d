-- Where the close can end, it does, and nothing refuses it.
use Rattle.std.proofs.Common.{ℕ, ◌∙◌, ◌≡◌, List, Ok, ap, refl, subst, sym}
use Rattle.realm_core.specs.{CanEnd, CoreValue, DidPerform, EndClose, EventReply, RealmStep, history_of}
use Rattle.realm_core.proofs.Words.{legal_history}
use Rattle.realm_core.proofs.{EndPasses.end_passes, Performed.closed_told, Performed.refused_surely}
use Rattle.realm_core.proofs.state.RealmCore.end_close.Goals as goal

pub returns-in_err-verdict-clause-sure : goal.returns-in_err-verdict-clause-sure
returns-in_err-verdict-clause-sure g c =
    λ can.
    let old = c.args.share.now in
    let new = c.perform.new.share in
    let did = rw c.actor-actor.ensures at c.in_err-verdict.ensures.answer.1 in
    let refused = refused_surely old new (EndClose old.actor c.args.scope) _ refl did in
    let same : c.args.self.now.steps ≡ new.seen = ap (λ (k : CoreValue). k.steps) (sym c.in_err-verdict.ensures.steps.1 ∙ c.in_err-verdict.ensures.steps.0) in
    let here = subst (λ (xs : List RealmStep). CanEnd (history_of xs) old.actor c.args.scope) same can in
    absurd (cc (end_passes old.limits (history_of new.seen) old.actor c.args.scope (legal_history old.limits new.seen refused.looks.legal) here, refused.by))

pub returns-clause-answer : goal.returns-clause-answer
returns-clause-answer g c =
    let old = c.args.share.now in
    let new = c.perform.new.share in
    let Q : ℕ → Type 0 = λ a. DidPerform old new (EndClose a c.args.scope) (Ok c.in_ok-verdict.field-0) in
    let did = subst Q c.actor-actor.ensures c.in_ok-verdict.ensures.answer.1 in
    let P : EventReply → Type 0 = λ t. DidPerform old new (EndClose old.actor c.args.scope) (Ok t) in
    (c.in_ok-verdict.ensures.answer.0, closed_told old new old.actor c.args.scope c.in-Closed.verdict (subst P c.in-Closed.is did))

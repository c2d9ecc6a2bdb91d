use Rattle.std.proofs.Common.{◌∙◌, ◌≡◌, ap, false, sym, true}
use Rattle.realm_core.specs.{BeginClose, CoreValue, Realm, closed, history_of, history_seen}
use Rattle.realm_core.proofs.Kept.{begun_already, begun_recorded, closed_sure, did_find, did_record, did_refuse, refused_sure}
use Rattle.realm_core.proofs.holds.begin.Goals as goal

pub returns-in-Ok-Recorded-clause-answer : goal.returns-in-Ok-Recorded-clause-answer
returns-in-Ok-Recorded-clause-answer g c =
    let it = did_record c.args.token.now c.begin_close.new.share (BeginClose c.args.token.now.actor c.args.scope) c.begin_close.result c.in-Ok-Recorded.field-0 c.in-Ok-Recorded.is c.in-Ok-Recorded.field-0-is c.begin_close.ensures.answer.1 in
    (it, begun_recorded c.args.token.now c.begin_close.new.share c.args.scope it)

pub returns-else-closed-clause-answer : goal.returns-else-closed-clause-answer
returns-else-closed-clause-answer g c =
    let it = did_find c.args.token.now c.begin_close.new.share (BeginClose c.args.token.now.actor c.args.scope) c.begin_close.result c.in-Ok-Already.field-0 c.in-Ok-Already.is c.in-Ok-Already.field-0-is c.begin_close.ensures.answer.1 in
    let told : closed (history_of c.begin_close.new.self.steps) c.args.scope ≡ false = ap (λ (r : Realm). closed r.history c.args.scope) (sym c.realm.ensures) ∙ (sym c.closed.ensures ∙ c.if-closed.false) in
    let here : closed (history_seen c.begin_close.new.share) c.args.scope ≡ false = ap (λ (k : CoreValue). closed (history_of k.steps) c.args.scope) (sym c.begin_close.ensures.steps.0) ∙ told in
    (it, begun_already c.args.token.now c.begin_close.new.share c.args.scope it here)

pub returns-then-closed-clause-sure : goal.returns-then-closed-clause-sure
returns-then-closed-clause-sure g c = λ mine.
    let it = did_find c.args.token.now c.begin_close.new.share (BeginClose c.args.token.now.actor c.args.scope) c.begin_close.result c.in-Ok-Already.field-0 c.in-Ok-Already.is c.in-Ok-Already.field-0-is c.begin_close.ensures.answer.1 in
    let told : closed (history_of c.begin_close.new.self.steps) c.args.scope ≡ true = ap (λ (r : Realm). closed r.history c.args.scope) (sym c.realm.ensures) ∙ (sym c.closed.ensures ∙ c.if-closed.true) in
    let here : closed (history_seen c.begin_close.new.share) c.args.scope ≡ true = ap (λ (k : CoreValue). closed (history_of k.steps) c.args.scope) (sym c.begin_close.ensures.steps.0) ∙ told in
    absurd (closed_sure c.args.token.now c.begin_close.new.share c.args.scope it here mine)

pub returns-in-Err-clause-sure : goal.returns-in-Err-clause-sure
returns-in-Err-clause-sure g c = λ mine.
    absurd (refused_sure c.args.token.now c.begin_close.new.share c.args.scope c.in-Err.refusal (did_refuse c.args.token.now c.begin_close.new.share (BeginClose c.args.token.now.actor c.args.scope) c.begin_close.result c.in-Err.refusal c.in-Err.is c.begin_close.ensures.answer.1) mine)

-- The beginning of a close wants no memory.
use Rattle.realm_core.specs.{BeginClose, DidPerform, Happened, Stepped, recorded}
use Rattle.realm_core.proofs.Words.{ℕ, Bool, refl, subst, sym}
use Rattle.realm_core.proofs.ToldCalls.{recorded_told, records_surely}
use Rattle.realm_core.proofs.state.RealmCore.begin_close.Goals as goal

pub returns-clause-answer : goal.returns-clause-answer
returns-clause-answer g c =
    let old = c.args.share.now in
    let new = c.perform.new.share in
    let Q : ℕ → Type 0 = λ a. DidPerform old new (BeginClose a c.args.scope) c.perform.result in
    (c.perform.ensures.answer.0, rw c.reply_noted.ensures (records_surely old new (BeginClose old.actor c.args.scope) c.perform.result refl (subst Q c.actor-actor.ensures c.perform.ensures.answer.1)))

pub returns-clause-steps : goal.returns-clause-steps
returns-clause-steps g c =
    let old = c.args.share.now in
    let new = c.perform.new.share in
    let P : ℕ → Type 0 = λ a. Stepped c.args.self.now c.perform.new.self new (Happened (BeginClose a c.args.scope)) (recorded c.reply_noted.result) in
    subst P c.actor-actor.ensures (rw (c.reply_noted.ensures, recorded_told c.perform.result) c.perform.ensures.steps)

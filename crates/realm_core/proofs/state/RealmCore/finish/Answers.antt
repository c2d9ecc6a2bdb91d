-- The end of a task that runs fits its label, and is refused for the task's open scopes alone.
use Rattle.std.proofs.Common.{ℕ, ◌∙◌, ◌≡◌, None, Ok, ap, refl, subst}
use Rattle.realm_core.specs.{Accepts, Finish, Happened, History, TicketOf, TicketValue, TokenOf, innermost}
use Rattle.realm_core.proofs.{Performed.answered, Performed.answers_so, Performed.refused_by, Performed.refuses_now, Started.runs_on, Steps.adds_now, Steps.looks_now, Taken.adds_taken, Taken.fits_now, Taken.only_structure}
use Rattle.realm_core.proofs.{Taken.runs_now, Taken.tied_taken, Unopened.innermost_still, Unopened.may_finish}
use Rattle.realm_core.proofs.state.RealmCore.finish.Goals as goal

pub done-requires-clause-fits : goal.done-requires-clause-fits
done-requires-clause-fits g c =
    let same : c.task-task.result ≡ c.args.ticket.now.task = c.task-task.ensures ∙ ap (λ (t : TicketValue). t.task) c.follow_ticket.ensures.ticket in
    rw same (fits_now g.N.RealmName.table c.self.inside.realm c.self.inside.keeper c.self.invariant c.args.ticket.now c.follow_ticket.ensures.agreed g.C.Catalog.fitting c.args.end c.label-granted.ensures.granted c.requires.task.fits)

pub finish-requires-clause-unfinished : goal.finish-requires-clause-unfinished
finish-requires-clause-unfinished g c =
    (runs_on c.self.inside.keeper c.args.ticket.now c.follow_ticket.new.ticket c.follow_ticket.ensures.agreed c.requires.task.running c.follow_ticket.ensures.ticket).unfinished

pub invariant_of-self : goal.invariant_of-self
invariant_of-self g c =
    let ticket = c.args.ticket.now in
    let same : c.task-task.result ≡ ticket.task = c.task-task.ensures ∙ ap (λ (t : TicketValue). t.task) c.follow_ticket.ensures.ticket in
    let answer = rw same at c.in-Ok.ensures.0 in
    let history = rw same at c.in-Ok.ensures.1 in
    let keeper = rw (c.follow_ticket.ensures.ticket, c.follow_ticket.ensures.keeper) at c.finish.ensures.keeper in
    let ok : Accepts c.self.inside.realm.limits c.self.inside.realm.history (Finish ticket.task c.args.end) = record { passed = (answered _ _ c.in-Ok.field-0 (answers_so _ _ (Ok c.in-Ok.field-0) answer)).0; recorded = refl } in
    tied_taken g.N.RealmName.table c.self.inside.realm c.self.inside.keeper c.self.invariant ticket c.follow_ticket.ensures.agreed (Finish ticket.task c.args.end) (Ok c.in-Ok.field-0) _ _ ok answer history keeper

pub returns-in-Ok-clause-answer : goal.returns-in-Ok-clause-answer
returns-in-Ok-clause-answer g c =
    let ticket = c.args.ticket.now in
    let same : c.task-task.result ≡ ticket.task = c.task-task.ensures ∙ ap (λ (t : TicketValue). t.task) c.follow_ticket.ensures.ticket in
    let answer = rw same at c.in-Ok.ensures.0 in
    let keeper = rw (c.follow_ticket.ensures.ticket, c.follow_ticket.ensures.keeper) at c.finish.ensures.keeper in
    let ok : Accepts c.self.inside.realm.limits c.self.inside.realm.history (Finish ticket.task c.args.end) = record { passed = (answered _ _ c.in-Ok.field-0 (answers_so _ _ (Ok c.in-Ok.field-0) answer)).0; recorded = refl } in
    let saw = rw (c.follow_ticket.ensures.ticket, keeper) at c.finish.ensures.ticket in
    let task = ap (λ (t : TicketValue). t.task) saw in
    let agreed = rw c.follow_ticket.ensures.keeper at c.finish.ensures.token_agreed in
    let added = adds_now g.N.RealmName.table c.self.inside.realm c.self.inside.keeper c.self.invariant (TokenOf c.args.share.actor) c.args.share.limits c.args.share.seen agreed (Happened (Finish ticket.task c.args.end)) ok in
    (adds_taken g.N.RealmName.table c.self.inside.realm c.self.inside.keeper c.self.invariant ticket c.follow_ticket.ensures.agreed (Finish ticket.task c.args.end) c.finish.new.ticket ok saw, rw task at c.finish.ensures.ended, rw (ap (λ (t : TicketValue). t.seen) saw) added)

pub returns-in-Err-clause-answer : goal.returns-in-Err-clause-answer
returns-in-Err-clause-answer g c =
    let ticket = c.args.ticket.now in
    let same : c.task-task.result ≡ ticket.task = c.task-task.ensures ∙ ap (λ (t : TicketValue). t.task) c.follow_ticket.ensures.ticket in
    let check = refused_by _ _ c.in-Err.refusal (rw same at c.in-Err.ensures.0) in
    let ticket_saw = c.follow_ticket.ensures.ticket in
    let runs = runs_now g.N.RealmName.table c.self.inside.realm c.self.inside.keeper c.self.invariant ticket c.follow_ticket.ensures.agreed c.requires.task.running in
    let agreed = rw c.follow_ticket.ensures.keeper at c.follow.ensures.agreed in
    let share_saw = rw c.follow_ticket.ensures.keeper at c.follow.ensures.share in
    let looked = looks_now g.N.RealmName.table c.self.inside.realm c.self.inside.keeper c.self.invariant (TicketOf ticket.task) ticket.limits ticket.seen c.follow_ticket.ensures.agreed in
    let refusal = refuses_now g.N.RealmName.table c.self.inside.realm c.self.inside.keeper c.self.invariant c.args.share agreed (Happened (Finish ticket.task c.args.end)) c.in-Err.refusal check in
    ((rw ticket_saw refl, rw ticket_saw looked), rw (ticket_saw, share_saw) refl, rw share_saw refusal, only_structure c.self.inside.realm.limits c.self.inside.realm.history ticket.task c.args.end c.in-Err.refusal runs check, runs_on c.self.inside.keeper ticket _ c.follow_ticket.ensures.agreed c.requires.task.running ticket_saw)

pub returns-in-Err-clause-sure : goal.returns-in-Err-clause-sure
returns-in-Err-clause-sure g c = λ none.
    let ticket = c.args.ticket.now in
    let realm = c.self.inside.realm in
    let same : c.task-task.result ≡ ticket.task = c.task-task.ensures ∙ ap (λ (t : TicketValue). t.task) c.follow_ticket.ensures.ticket in
    let check = refused_by _ _ c.in-Err.refusal (rw same at c.in-Err.ensures.0) in
    let runs = runs_now g.N.RealmName.table realm c.self.inside.keeper c.self.invariant ticket c.follow_ticket.ensures.agreed c.requires.task.running in
    let agreed = rw c.follow_ticket.ensures.keeper at c.follow.ensures.agreed in
    let there = innermost_still c.self.inside.keeper.limits c.args.share.actor c.args.share.seen c.self.inside.keeper.steps agreed.agrees c.self.invariant.lawful ∙ none in
    let here : innermost realm.history ticket.task ≡ None = subst (λ (k : ℕ). innermost realm.history k ≡ None) c.requires.task.actor (subst (λ (h : History). innermost h c.args.share.actor ≡ None) c.self.invariant.replay there) in
    absurd (cc (may_finish realm.limits realm.history ticket.task c.args.end runs here, check))

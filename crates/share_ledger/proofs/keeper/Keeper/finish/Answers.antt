use Rattle.std.proofs.Common.{◌∙◌, ◌≡◌, None, ap, sym}
use Rattle.share_ledger.specs.{TicketValue, end_in}
use Rattle.share_ledger.proofs.Telling.{ended_ticket, unended}
use Rattle.share_ledger.proofs.keeper.Keeper.finish.Goals as goal

pub invariant_of-ticket : goal.invariant_of-ticket
invariant_of-ticket c =
    let t = c.ticket.inside in
    let step = c.step_together in
    let none : t.end ≡ None = unended t.end (end_in c.args.ticket.now.task c.args.ticket.now.seen) (c.ticket.invariant.is_ended ∙ ap (λ (v : TicketValue). end_in v.task v.seen) c.ticket.view_is) c.requires.unfinished in
    ended_ticket t.task t.scope t.label t.given t.started t.end t.badge.views step.new.badge.views c.self.inside.desk.seat.me.0 c.ticket.invariant step.ensures.known c.args.end none step.ensures.share

pub returns-clause-ended : goal.returns-clause-ended
returns-clause-ended c =
    let t = c.ticket.inside in
    let step = c.step_together in
    let none : t.end ≡ None = unended t.end (end_in c.args.ticket.now.task c.args.ticket.now.seen) (c.ticket.invariant.is_ended ∙ ap (λ (v : TicketValue). end_in v.task v.seen) c.ticket.view_is) c.requires.unfinished in
    sym (ended_ticket t.task t.scope t.label t.given t.started t.end t.badge.views step.new.badge.views c.self.inside.desk.seat.me.0 c.ticket.invariant step.ensures.known c.args.end none step.ensures.share).is_ended

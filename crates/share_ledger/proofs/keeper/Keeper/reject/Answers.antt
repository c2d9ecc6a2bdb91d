use Rattle.share_ledger.proofs.Words.{sym}
use Rattle.share_ledger.proofs.Telling.{rejected_ticket}
use Rattle.share_ledger.proofs.keeper.Keeper.reject.Goals as goal

pub invariant_of-ticket : goal.invariant_of-ticket
invariant_of-ticket c =
    let t = c.ticket.inside in
    rejected_ticket t.task t.scope t.label t.given t.started t.end t.badge.views c.step_alone.new.badge.views c.self.inside.desk.seat.me.0 c.ticket.invariant c.step_alone.ensures.known c.step_alone.ensures.share

pub returns-clause-given : goal.returns-clause-given
returns-clause-given c =
    let t = c.ticket.inside in
    sym (rejected_ticket t.task t.scope t.label t.given t.started t.end t.badge.views c.step_alone.new.badge.views c.self.inside.desk.seat.me.0 c.ticket.invariant c.step_alone.ensures.known c.step_alone.ensures.share).is_given

use Rattle.share_ledger.proofs.Telling.{followed_ticket}
use Rattle.share_ledger.proofs.keeper.Keeper.follow_ticket.Goals as goal

pub invariant_of-ticket : goal.invariant_of-ticket
invariant_of-ticket c =
    let t = c.ticket.inside in
    followed_ticket t.task t.scope t.label t.given t.started t.end t.badge.views c.refresh.new.badge.views c.self.inside.desk.seat.me.0 c.ticket.invariant c.refresh.ensures.known c.refresh.ensures.share

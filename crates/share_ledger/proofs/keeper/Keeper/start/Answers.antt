use Rattle.std.proofs.Common.{◌∙◌, ◌≡◌, ap, false, sym}
use Rattle.share_ledger.specs.{TicketValue, started_in}
use Rattle.share_ledger.proofs.Telling.{may_start, started_ticket}
use Rattle.share_ledger.proofs.keeper.Keeper.start.Goals as goal

pub step_naming-new-requires-clause-may : goal.step_naming-new-requires-clause-may
step_naming-new-requires-clause-may c =
    let t = c.ticket.inside in
    let unstarted : t.started ≡ false = c.ticket.invariant.is_started ∙ (ap (λ (v : TicketValue). started_in v.task v.seen) c.ticket.view_is ∙ c.requires.waiting.unstarted) in
    λ known. may_start t.task t.scope t.label t.given t.started t.end t.badge.views t.badge.views c.self.inside.desk.seat.me.0 c.ticket.invariant known unstarted

pub invariant_of-ticket : goal.invariant_of-ticket
invariant_of-ticket c =
    let t = c.ticket.inside in
    let step = c.step_naming-new in
    started_ticket t.task t.scope t.label t.given t.started t.end t.badge.views step.new.badge.views c.self.inside.desk.seat.me.0 c.ticket.invariant step.ensures.known step.ensures.share

pub returns-clause-started : goal.returns-clause-started
returns-clause-started c =
    let t = c.ticket.inside in
    let step = c.step_naming-new in
    sym (started_ticket t.task t.scope t.label t.given t.started t.end t.badge.views step.new.badge.views c.self.inside.desk.seat.me.0 c.ticket.invariant step.ensures.known step.ensures.share).is_started

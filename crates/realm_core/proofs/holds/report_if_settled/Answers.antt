use Rattle.realm_core.specs.{CoreValue, FoundUnsettled, Realm}
use Rattle.realm_core.proofs.Words.{None, Some, ap, refl, subst}
use Rattle.realm_core.proofs.Kept.{can_close_now, reported_or_left, waits_on}
use Rattle.realm_core.proofs.holds.report_if_settled.Goals as goal

pub end_with_tickets-requires-clause-can : goal.end_with_tickets-requires-clause-can
end_with_tickets-requires-clause-can g c =
    can_close_now c.args.token.now c.look.new.share c.args.scope c.look.new.self.steps c.look.ensures.looks.0 (ap (λ (k : CoreValue). k.steps) c.look.ensures.steps.0) c.look.ensures.looks.1 c.requires.begun (subst (λ (r : Realm). FoundUnsettled r.history c.args.scope None) c.realm.ensures c.in-None.ensures)

pub returns-in-Some-clause-answer : goal.returns-in-Some-clause-answer
returns-in-Some-clause-answer g c =
    (waits_on c.args.token.now c.look.new.share c.args.scope c.in-Some.field-0 c.look.new.self.steps (ap (λ (k : CoreValue). k.steps) c.look.ensures.steps.0) c.look.ensures.looks.1 c.requires.begun (subst (λ (r : Realm). FoundUnsettled r.history c.args.scope (Some c.in-Some.field-0)) c.realm.ensures c.in-Some.ensures), refl)

pub returns-in-None-clause-answer : goal.returns-in-None-clause-answer
returns-in-None-clause-answer g c =
    reported_or_left c.args.token.now c.look.new.share c.end_with_tickets.new.token c.args.scope c.args.tickets.now.items c.end_with_tickets.new.tickets.items c.end_with_tickets.result c.look.ensures.looks.0 c.look.ensures.looks.1 c.requires.begun c.end_with_tickets.ensures.done c.end_with_tickets.ensures.not

use Rattle.realm_core.specs.{CoreValue, FoundUnsettled, Realm}
use Rattle.realm_core.proofs.Words.{None, Some, ap, subst}
use Rattle.realm_core.proofs.Kept.{can_close_now, waits_on}
use Rattle.realm_core.proofs.holds.end_if_settled.Goals as goal

pub end_all-requires-clause-can : goal.end_all-requires-clause-can
end_all-requires-clause-can g c =
    can_close_now c.args.token.now c.look.new.share c.args.scope c.look.new.self.steps c.look.ensures.looks.0 (ap (λ (k : CoreValue). k.steps) c.look.ensures.steps.0) c.look.ensures.looks.1 c.requires.begun (subst (λ (r : Realm). FoundUnsettled r.history c.args.scope None) c.realm.ensures c.in-None.ensures)

pub returns-in-Some-clause-answer : goal.returns-in-Some-clause-answer
returns-in-Some-clause-answer g c =
    waits_on c.args.token.now c.look.new.share c.args.scope c.in-Some.field-0 c.look.new.self.steps (ap (λ (k : CoreValue). k.steps) c.look.ensures.steps.0) c.look.ensures.looks.1 c.requires.begun (subst (λ (r : Realm). FoundUnsettled r.history c.args.scope (Some c.in-Some.field-0)) c.realm.ensures c.in-Some.ensures)

use Rattle.std.proofs.Common.{◌∙◌, ◌≡◌, IsOk, None, Some, ap, refl, subst, sym}
use Rattle.realm_core.specs.{CoreValue, Realm, history_of, innermost}
use Rattle.realm_core.proofs.EndSteps.{inner_ends, inner_there, not_refused, one_end, verdict_then}
use Rattle.realm_core.proofs.ending.end_innermost.Goals as goal

pub unreachable-requires : goal.unreachable-requires
unreachable-requires g c =
    let found = ap (λ (r : Realm). innermost r.history c.actor.result) (sym c.realm.ensures) ∙ sym c.innermost.ensures in
    inner_there (history_of c.args.core.now.steps) c.args.token.now.actor c.args.scope c.requires.can
    (subst (λ a. innermost (history_of c.args.core.now.steps) a ≡ None) c.actor.ensures (found ∙ c.in_default.is))

pub unreachable-requires-in_default-end_close : goal.unreachable-requires-in_default-end_close
unreachable-requires-in_default-end_close g c =
    let found = ap (λ (r : Realm). innermost r.history c.actor.result) (sym c.realm.ensures) ∙ sym c.innermost.ensures in
    let inner = subst (λ a. innermost (history_of c.args.core.now.steps) a ≡ Some c.in-Some.innermost) c.actor.ensures (found ∙ c.in-Some.is) in
    let ok : IsOk c.end_close.result = c.end_close.ensures.sure (inner_ends _ c.args.core.now.steps c.args.token.now.actor c.args.scope c.in-Some.innermost c.limits-legal.ensures.legal c.requires.can inner) in
    not_refused c.end_close.result _ c.in_default-end_close.is ok

pub returns-clause-end : goal.returns-clause-end
returns-clause-end g c =
    let found = ap (λ (r : Realm). innermost r.history c.actor.result) (sym c.realm.ensures) ∙ sym c.innermost.ensures in
    let inner = subst (λ a. innermost (history_of c.args.core.now.steps) a ≡ Some c.in-Some.innermost) c.actor.ensures (found ∙ c.in-Some.is) in
    let steps = c.in-Ok.ensures.steps in
    let next = ap (λ (k : CoreValue). k.steps) (sym steps.0 ∙ steps.1) in
    one_end _ _ c.args.token.now.actor c.args.scope c.in-Some.innermost c.args.core.now.steps _ c.limits-legal.ensures.legal c.requires.can inner next c.in-Ok.ensures.answer.1.adds.legal

pub returns-clause-verdict : goal.returns-clause-verdict
returns-clause-verdict g c =
    let it = c.in-Ok.ensures.answer.1 in
    it.replied ∙ sym (verdict_then c.args.token.now.actor c.in-Some.innermost it.adds.there _ it.adds.is)

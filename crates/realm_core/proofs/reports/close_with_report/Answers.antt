use Rattle.std.proofs.Common.{◌≡◌, Some, option_map, refl, subst, sym}
use Rattle.realm_core.specs.{ArePrepared, Ends.Ends, InEndOrder, Realm, history_of, log, numbers, with_end}
use Rattle.realm_core.proofs.Reporting.{ends_named, report_so}
use Rattle.realm_core.proofs.reports.close_with_report.Goals as goal

pub returns-clause-ends : goal.returns-clause-ends
returns-clause-ends g c =
    let token = c.args.token.now in
    let order = subst (λ a. InEndOrder (history_of c.args.core.now.steps) a c.args.scope (numbers c.in_ok-log.nested.items)) c.actor-actor.ensures (subst (λ (r : Realm). InEndOrder r.history c.actor-actor.result c.args.scope (numbers c.in_ok-log.nested.items)) c.realm.ensures c.in_ok-log.ensures.nested.0) in
    let ends = c.end_all-verdict.ensures.ends in
    subst (λ steps. Ends token.limits token.actor c.args.scope (numbers c.in_ok-log.nested.items) steps c.end_all-verdict.new.token.seen) (sym c.requires.shown)
    (ends_named _ _ _ ends.0 (numbers c.in_ok-log.nested.items) c.args.core.now.steps _ ends.1 order)

pub returns-clause-report : goal.returns-clause-report
returns-clause-report g c =
    let h = history_of c.args.core.now.steps in
    let own = subst (λ a. option_map (with_end a) (log h c.args.scope) ≡ Some c.in_ok-log.log) c.actor-actor.ensures (subst (λ (r : Realm). option_map (with_end c.actor-actor.result) (log r.history c.args.scope) ≡ Some c.in_ok-log.log) c.realm.ensures c.in_ok-log.ensures.own) in
    let order = subst (λ a. InEndOrder h a c.args.scope (numbers c.in_ok-log.nested.items)) c.actor-actor.ensures (subst (λ (r : Realm). InEndOrder r.history c.actor-actor.result c.args.scope (numbers c.in_ok-log.nested.items)) c.realm.ensures c.in_ok-log.ensures.nested.0) in
    let inside = subst (λ a. ArePrepared h a c.in_ok-log.nested.items) c.actor-actor.ensures (subst (λ (r : Realm). ArePrepared r.history c.actor-actor.result c.in_ok-log.nested.items) c.realm.ensures c.in_ok-log.ensures.nested.1) in
    let ends = c.end_all-verdict.ensures.ends in
    let named = ends_named _ _ _ ends.0 (numbers c.in_ok-log.nested.items) c.args.core.now.steps _ ends.1 order in
    report_so _ _ _ _ c.args.core.now.steps _ named c.requires.can c.end_all-verdict.result c.in_ok-log.log c.in_ok-log.nested.items c.end_all-verdict.ensures.verdict own inside refl

-- What is said at the places of the scope's events, with the mark, are the entries of its log.
use Rattle.realm_state.specs.{AreTrailsOf, Realm, entry_at, filter_map}
use Rattle.realm_state.proofs.Words.{◌∙◌, IfOk-weaker, ap, each_said, length, opened_trail, scope_passed, subst, sym}
use Rattle.realm_state.proofs.Said.{entries_made, made_small}
use Rattle.realm_state.proofs.realm.RealmState.entries.Goals as goal

pub places-requires : goal.places-requires
places-requires c =
    let are = subst (λ (r : Realm). AreTrailsOf r.history c.self.inside.trails) c.self.view_is c.self.invariant.1 in
    let it = scope_passed c.args.self.now.history c.args.scope c.requires in
    opened_trail c.args.self.now.history c.self.inside.trails c.args.scope are (record { opened = it.opened; is = it.is })

pub with_mark-requires : goal.with_mark-requires
with_mark-requires c =
    let h = c.args.self.now.history in
    let are = subst (λ (r : Realm). AreTrailsOf r.history c.self.inside.trails) c.self.view_is c.self.invariant.1 in
    let places = c.in_ok-places.ensures.agrees h are in
    ap length c.in_ok-said.ensures
    ∙ (ap (λ ps. length (filter_map (entry_at h c.args.scope) ps)) (c.deref.ensures.value ∙ places)
    ∙ (each_said h c.args.scope ∙ ap length (sym (c.deref-2.ensures.value ∙ places))))

pub returns-clause-entries : goal.returns-clause-entries
returns-clause-entries c =
    let h = c.args.self.now.history in
    let are = subst (λ (r : Realm). AreTrailsOf r.history c.self.inside.trails) c.self.view_is c.self.invariant.1 in
    let places = c.in_ok-places.ensures.agrees h are in
    let said = c.in_ok-said.ensures ∙ ap (filter_map (entry_at h c.args.scope)) (c.deref.ensures.value ∙ sym c.deref-2.ensures.value) in
    IfOk-weaker c.with_mark.result _ _ (λ v made. entries_made h c.args.scope c.deref-2.result.now _ _ v.items (c.deref-2.ensures.value ∙ places) c.cancellation.ensures said made) c.with_mark.ensures

pub returns-clause-small : goal.returns-clause-small
returns-clause-small c =
    let facts = c.limits-legal.ensures in
    IfOk-weaker c.with_mark.result _ _ (λ v made. made_small _ _ c.args.self.now.history c.args.scope v.items facts.limits facts.legal facts.within made) (returns-clause-entries c)

use Rattle.std.proofs.Common.{◌-◌, ◌∙◌, ◌≡◌, Ok, ap, arith, subst, sym}
use Rattle.realm_lock.specs.{CoreValue, History, Realm, history_of, scope_check}
use Rattle.realm_lock.proofs.Behind.{cell_there, scope_place}
use Rattle.realm_lock.proofs.locked.LockedRealm.cell.Goals as goal

pub overflow_sub-place : goal.overflow_sub-place
overflow_sub-place g c =
    let h : History = history_of c.self.inside.core.steps in
    let ok : scope_check h c.args.scope ≡ Ok tt = sym (ap (λ (r : Realm). scope_check r.history c.args.scope) c.realm-realm.ensures) ∙ (sym c.scope_check.ensures ∙ c.in_ok-scope_check.was) in
    let it = scope_place h c.args.scope c.self.inside.setters c.self.invariant ok in
    let base : c.retired_scopes.result ≡ h.base.scopes = c.retired_scopes.ensures ∙ ap (λ (r : Realm). r.history.base.scopes) c.realm-realm.ensures in
    omega (arith, it.2, base)

pub overflow_sub-place-2 : goal.overflow_sub-place-2
overflow_sub-place-2 g c =
    let h : History = history_of c.self.inside.core.steps in
    let ok : scope_check h c.args.scope ≡ Ok tt = sym (ap (λ (r : Realm). scope_check r.history c.args.scope) c.realm-realm.ensures) ∙ (sym c.scope_check.ensures ∙ c.in_ok-scope_check.was) in
    let it = scope_place h c.args.scope c.self.inside.setters c.self.invariant ok in
    let base : c.retired_scopes.result ≡ h.base.scopes = c.retired_scopes.ensures ∙ ap (λ (r : Realm). r.history.base.scopes) c.realm-realm.ensures in
    omega (arith, it.2, base)

pub cell_at-requires : goal.cell_at-requires
cell_at-requires g c =
    let h : History = history_of c.self.inside.core.steps in
    let ok : scope_check h c.args.scope ≡ Ok tt = sym (ap (λ (r : Realm). scope_check r.history c.args.scope) c.realm-realm.ensures) ∙ (sym c.scope_check.ensures ∙ c.in_ok-scope_check.was) in
    let it = scope_place h c.args.scope c.self.inside.setters c.self.invariant ok in
    let base : c.retired_scopes.result ≡ h.base.scopes = c.retired_scopes.ensures ∙ ap (λ (r : Realm). r.history.base.scopes) c.realm-realm.ensures in
    omega (arith, it.1, it.2, base)

pub returns-in-Ok : goal.returns-in-Ok
returns-in-Ok g c =
    let h : History = history_of c.self.inside.core.steps in
    let ok : scope_check h c.args.scope ≡ Ok tt = sym (ap (λ (r : Realm). scope_check r.history c.args.scope) c.realm-realm.ensures) ∙ (sym c.scope_check.ensures ∙ c.in_ok-scope_check.was) in
    let it = scope_place h c.args.scope c.self.inside.setters c.self.invariant ok in
    let base : c.retired_scopes.result ≡ h.base.scopes = c.retired_scopes.ensures ∙ ap (λ (r : Realm). r.history.base.scopes) c.realm-realm.ensures in
    let place = c.args.scope - c.retired_scopes.result - 1 in (
      subst (λ (k : CoreValue). scope_check (history_of k.steps) c.args.scope ≡ Ok tt) c.self.view_is ok,
      cell_there h c.args.scope place c.self.inside.setters c.in-Ok.cell c.self.invariant (omega (arith, it.2, base)) c.in-Ok.ensures,
    )

-- The log of a scope that may be joined tells what the join would give.
use Rattle.std.proofs.Common.{◌∙◌, ◌≡◌, Ok, Some, ap, refl, sym}
use Rattle.realm_state.specs.{Join, check_of, row_check}
use Rattle.realm_state.proofs.Words.{checks_at, preview_told}
use Rattle.realm_state.proofs.realm.RealmState.join_preview.Goals as goal

pub log-requires : goal.log-requires
unfolding row_check
log-requires c =
    let passed : check_of c.args.self.now.limits c.args.self.now.history (Join c.args.actor c.args.scope) ≡ Ok tt = sym (c.join_row.ensures c.args.self.now.limits) ∙ c.in_ok-join_row.was in
    checks_at _ 1 _ passed refl

pub returns-in-Ok : goal.returns-in-Ok
returns-in-Ok c =
    let passed : check_of c.args.self.now.limits c.args.self.now.history (Join c.args.actor c.args.scope) ≡ Ok tt = sym (c.join_row.ensures c.args.self.now.limits) ∙ c.in_ok-join_row.was in
    rw passed (preview_told _ _ c.args.actor c.args.scope _ c.limits-legal.ensures.legal passed c.in_ok-log.ensures.log ∙ ap Some (sym c.in-Ok.ensures))

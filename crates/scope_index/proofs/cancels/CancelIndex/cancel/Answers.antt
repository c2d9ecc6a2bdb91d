use Rattle.std.proofs.Common.{◌-◌, ◌≤◌, arith, subst, sym}
use Rattle.scope_index.specs.{AreKept, HasRow, IsAdded, cancel_at, changed, with_own}
use Rattle.scope_index.proofs.CancelsKept.{kept_cancel}
use Rattle.scope_index.proofs.cancels.CancelIndex.cancel.Goals as goal

pub invariant_of-self : goal.invariant_of-self
invariant_of-self c =
    let inside = c.self.inside in
    let has = subst (λ t. HasRow t c.args.scope) (sym c.self.view_is) c.requires.row in
    let row = c.args.scope - inside.before in
    let added : IsAdded inside.tree row = (omega (arith, has.after), omega (arith, has.within)) in
    subst (λ nodes. AreKept inside.before inside.moment nodes inside.accounts.items c.remove.new.self) (sym c.cancel.ensures)
    (subst (AreKept inside.before inside.moment (changed inside.tree row (with_own (cancel_at c.args.place row c.args.kind))) inside.accounts.items) (sym c.remove.ensures)
    (kept_cancel inside.before inside.moment row c.args.place c.args.kind inside.tree inside.accounts.items inside.deadlines added c.self.invariant))

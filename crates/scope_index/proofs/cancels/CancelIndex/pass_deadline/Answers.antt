use Rattle.std.proofs.Common.{◌-◌, ◌≤◌, Some, arith, subst, sym}
use Rattle.scope_index.specs.{AreKept, CancelTable, HasRow, IsAdded, changed, with_deadline}
use Rattle.scope_index.proofs.CancelsKept.{kept_past}
use Rattle.scope_index.proofs.cancels.CancelIndex.pass_deadline.Goals as goal

pub invariant_of-self : goal.invariant_of-self
invariant_of-self c =
    let inside = c.self.inside in
    let has = subst (λ t. HasRow t c.args.scope) (sym c.self.view_is) c.requires.row in
    let past = subst (λ (t : CancelTable). c.args.deadline ≤ t.moment) (sym c.self.view_is) c.requires.passed in
    let row = c.args.scope - inside.before in
    let added : IsAdded inside.tree row = (omega (arith, has.after), omega (arith, has.within)) in
    subst (λ nodes. AreKept inside.before inside.moment nodes inside.accounts.items c.remove.new.self) (sym c.set_deadline.ensures)
    (subst (AreKept inside.before inside.moment (changed inside.tree row (with_deadline (Some c.args.deadline))) inside.accounts.items) (sym c.remove.ensures)
    (kept_past inside.before inside.moment row c.args.deadline inside.tree inside.accounts.items inside.deadlines added past c.self.invariant))

use Rattle.std.proofs.Common.{◌-◌, ◌<◌, ◌∙◌, ◌≤◌, Some, arith, subst, sym}
use Rattle.scope_index.specs.{CancelTable, HasRow, IsAdded}
use Rattle.scope_index.proofs.{CancelsKept.kept_move, CancelsKept.kept_over, cancels.CancelIndex.await_deadline.Goals.else-not-has_own_cancel, cancels.CancelIndex.await_deadline.Goals.then-not-has_own_cancel+in_ok-set}
use Rattle.scope_index.proofs.cancels.CancelIndex.await_deadline.Goals as goal

pub invariant_of-self-2 : goal.invariant_of-self-2
invariant_of-self-2 c =
    let inside = c.self.inside in
    let has = subst (λ t. HasRow t c.args.scope) (sym c.self.view_is) c.requires.row in
    let coming = subst (λ (t : CancelTable). t.moment < c.args.deadline) (sym c.self.view_is) c.requires.coming in
    let row = c.args.scope - inside.before in
    let added : IsAdded inside.tree row = (omega (arith, has.after), omega (arith, has.within)) in
    elim c.if-not-has_own_cancel.branch [
      | then-not-has_own_cancel+in_ok-set w ↦
          rw c.set_deadline.ensures (rw w.self-inside-is (rw w.in_ok-set.ensures.set
          (kept_move inside.before inside.moment row c.args.deadline inside.tree inside.accounts.items inside.deadlines added (sym c.has_own_cancel.ensures ∙ w.if-not-has_own_cancel.true) coming c.self.invariant)))
      | else-not-has_own_cancel w ↦
          rw c.set_deadline.ensures (rw w.self-inside-is
          (kept_over inside.before inside.moment row c.args.deadline inside.tree inside.accounts.items inside.deadlines added (sym c.has_own_cancel.ensures ∙ w.if-not-has_own_cancel.false) c.self.invariant))
    ]

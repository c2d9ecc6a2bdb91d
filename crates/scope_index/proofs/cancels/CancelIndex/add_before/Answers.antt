use Rattle.std.proofs.Common.{◌+◌, ◌<◌, ◌^◌, length, subst, sym}
use Rattle.scope_index.specs.{CancelTable}
use Rattle.scope_index.proofs.Words.{given_back}
use Rattle.scope_index.proofs.CancelsKept.{kept_add_before, kept_refused}
use Rattle.scope_index.proofs.cancels.CancelIndex.add_before.Goals as goal

pub invariant_of-self-in-Ok : goal.invariant_of-self-in-Ok
invariant_of-self-in-Ok c =
    let inside = c.self.inside in
    let small = subst (λ (t : CancelTable). t.before + length t.nodes + 1 < 2 ^ 32) (sym c.self.view_is) c.requires.number in
    let coming = subst (λ (t : CancelTable). t.moment < c.args.deadline) (sym c.self.view_is) c.requires.coming in
    rw c.set_deadline.ensures (rw c.in-Ok.ensures.added (rw c.push_reserved.ensures.items (rw c.make_room.ensures.items (rw c.in_ok-set.ensures.set (rw c.len.ensures
    (kept_add_before inside.before inside.moment c.args.deadline c.args.inside c.args.shield c.args.place c.args.account inside.tree inside.accounts.items inside.deadlines small coming c.self.invariant))))))

pub remove-requires : goal.remove-requires
remove-requires c = given_back c.self.inside.deadlines c.set.new.self _ c.args.deadline c.in_ok-set.ensures.set

pub invariant_of-self-in-Err-1 : goal.invariant_of-self-in-Err-1
invariant_of-self-in-Err-1 c =
    let inside = c.self.inside in
    rw c.in-Err.ensures.unchanged (rw c.make_room.ensures.items (rw c.remove.ensures (rw c.in_ok-set.ensures.set (rw c.len.ensures
    (rw (kept_refused inside.before inside.moment c.args.deadline inside.tree inside.accounts.items inside.deadlines c.self.invariant) c.self.invariant)))))

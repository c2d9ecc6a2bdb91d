-- The order lists the deadlines, and so its first scopes are those that are due.
use Rattle.std.proofs.Common.{◌≡◌, subst, sym}
use Rattle.deadline_core.specs.{IsDueInOrder, scopes_up_to}
use Rattle.deadline_core.proofs.Words.{IfOk-weaker}
use Rattle.deadline_core.proofs.{Due.due_in_order, Pairs.listed_of}
use Rattle.deadline_core.proofs.order.DeadlineOrder.due.Goals as goal

pub returns : goal.returns
returns c =
    let keys = c.self.inside.pairs.keys in
    let m = c.args.self.now in
    let lists = listed_of keys m c.self.view_is c.self.invariant.one in
    let due = due_in_order c.args.now keys m lists c.scopes_up_to.ensures.ordered in
    IfOk-weaker c.scopes_up_to.result (λ scopes. scopes.items ≡ scopes_up_to c.args.now keys) (λ scopes. IsDueInOrder m c.args.now scopes.items) (λ scopes e. subst (IsDueInOrder m c.args.now) (sym e) due) c.scopes_up_to.ensures.listed

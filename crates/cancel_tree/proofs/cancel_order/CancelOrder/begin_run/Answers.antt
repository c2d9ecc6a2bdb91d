-- The run before is put in order, and the new one begins at the end.
use Rattle.std.proofs.Common.{◌≡◌, arith, length, refl, rules}
use Rattle.cancel_tree.proofs.RunLaws.{runs_begin}
use Rattle.cancel_tree.proofs.cancel_order.CancelOrder.begin_run.Goals as goal

pub returns-clause-runs : goal.returns-clause-runs
returns-clause-runs c =
    let l = c.order.new.self in
    let here : c.len-self.result ≡ length l.scopes.items = search rules in
    λ when once runs. runs_begin when l _ refl here (omega (arith, c.requires.later, c.order.ensures.place)) c.order.ensures.in_order (c.order.ensures.runs when once runs)

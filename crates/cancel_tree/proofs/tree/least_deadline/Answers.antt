-- Each turn takes in the deadline of one scope, and goes on to the scope outside it.
use Rattle.std.proofs.Common.{◌-◌, ◌∙◌, None, false, get_or, length, sym}
use Rattle.cancel_tree.specs.{ScopeNode, deadline_of, outer, outer_of}
use Rattle.cancel_tree.proofs.{LeastLaws.least_falls, LeastLaws.least_step, RowLaws.field_at}
use Rattle.cancel_tree.proofs.tree.least_deadline.Goals as goal

abbrev no_told : ScopeNode
no_told = record { parent = None; shield = false; opened = 0; own = None; deadline = None }

pub loop-next-smaller : goal.loop-next-smaller
loop-next-smaller c =
    let nodes = c.args.nodes.now in
    let added = c.loop-next.invariant.within c.in-Some.here c.in-Some.is in
    least_falls (outer_of nodes) c.requires.inward c.in-Some.here c.loop-next.next c.outer-next.result added.0 c.in-Some.is
    (c.outer-next.ensures ∙ sym (field_at outer nodes c.in-Some.here no_told added))

pub loop-next-preserved : goal.loop-next-preserved
loop-next-preserved c =
    let nodes = c.args.nodes.now in
    let here = c.in-Some.here in
    let added = c.loop-next.invariant.within here c.in-Some.is in
    least_step (outer_of nodes) (deadline_of nodes) c.requires.inward (length nodes) c.args.scope here c.loop-next.least c.loop-next.next (get_or nodes (here - 1) no_told).deadline c.outer-next.result c.sooner-least.result
    c.loop-next.invariant c.in-Some.is (sym (field_at (λ t. t.deadline) nodes here no_told added)) (c.outer-next.ensures ∙ sym (field_at outer nodes here no_told added)) c.sooner-least.ensures

-- The roots are pending at first; node after node is placed, and what lies below it is pending; at the end all are placed.
use Rattle.std.specs.Prelude.{◌≡◌}
use Rattle.run_picture.specs.{[]}
use Rattle.run_picture.proofs.Lemmas.{arith, subst}
use Rattle.run_picture.proofs.Placing.{IsWalked, empty_of, fewer_missing, next_is, placed_once, walk_begins, walk_on}
use Rattle.run_picture.proofs.placed.walked.Goals as goal

pub loop-one-init : goal.loop-one-init
loop-one-init c = walk_begins c.args.keys.now c.new-placed.result.items c.new-pending.result.items c.push_below.new.pending.items c.new-placed.ensures.items c.new-pending.ensures.items c.in_ok-push_below.ensures

pub push_below-requires-in-Some-clause-key : goal.push_below-requires-in-Some-clause-key
push_below-requires-in-Some-clause-key c =
    let next = next_is c.args.keys.now c.loop-one.placed.items c.loop-one.pending.items c.pop.new.self.items c.in-Some.one c.loop-one.invariant c.in-Some.ensures.items in
    omega (arith, next.within)

pub loop-one-smaller : goal.loop-one-smaller
loop-one-smaller c = fewer_missing c.args.keys.now c.loop-one.placed.items c.loop-one.pending.items c.pop.new.self.items c.push.new.self.items c.in-Some.one c.loop-one.invariant c.in-Some.ensures.items c.in_ok-push.ensures.items

pub loop-one-preserved : goal.loop-one-preserved
loop-one-preserved c = walk_on c.args.keys.now c.loop-one.placed.items c.loop-one.pending.items c.pop.new.self.items c.push.new.self.items c.push_below-in-Some.new.pending.items c.in-Some.one c.loop-one.invariant c.in-Some.ensures.items c.in_ok-push.ensures.items c.in_ok-push_below-2.ensures

pub returns : goal.returns
returns c =
    let none : c.loop-one.pending.items ≡ [] = empty_of c.loop-one.pending.items (omega (arith, c.in_default.ensures.cases.0, c.loop-one.pending.ok)) in
    placed_once c.args.columns.now c.args.keys.now c.loop-one.placed.items c.requires.keys (subst (IsWalked c.args.keys.now c.loop-one.placed.items) none c.loop-one.invariant)

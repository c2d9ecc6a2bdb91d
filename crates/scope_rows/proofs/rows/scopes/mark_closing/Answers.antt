-- Each turn marks a scope and goes on below it.
use Rattle.scope_rows.proofs.Words.{None, refl, subst}
use Rattle.scope_rows.proofs.Marking.{IsWalked, onward_end, onward_on, step_written, walk_shrinks, walk_start, walk_written}
use Rattle.scope_rows.proofs.rows.scopes.mark_closing.Goals as goal

pub loop-next-init : goal.loop-next-init
loop-next-init c = record { before = refl; spare = refl; walked = walk_start c.args.rows.now.before c.args.scope c.args.from c.args.rows.now.items c.requires.linked c.requires.from }

pub get_mut-row-requires : goal.get_mut-row-requires
get_mut-row-requires c =
    (subst (λ o. IsWalked c.loop-next.rows.before c.args.scope o c.loop-next.rows.items c.args.from c.args.rows.now.items) c.in-Some.is c.loop-next.invariant.walked).within

pub loop-next-preserved-then-here-scope : goal.loop-next-preserved-then-here-scope
loop-next-preserved-then-here-scope c =
    let rows = c.loop-next.rows in
    let so = subst (λ o. IsWalked rows.before c.args.scope o rows.items c.args.from c.args.rows.now.items) c.in-Some.is c.loop-next.invariant.walked in
    record {
      before = c.loop-next.invariant.before;
      spare = c.loop-next.invariant.spare;
      walked = step_written rows.before c.args.scope c.in-Some.here rows.items c.args.from c.args.rows.now.items None c.get_mut-row.result.now so (onward_end rows.before c.args.scope c.in-Some.here rows.items c.if-here-scope.true) c.get_mut-row.ensures.value;
    }

pub loop-next-smaller : goal.loop-next-smaller
loop-next-smaller c =
    walk_shrinks c.loop-next.rows.before c.args.scope c.in-Some.here c.loop-next.rows.items c.args.from c.args.rows.now.items c.loop-next.next c.get_mut-row.result.now c.in-Some.is c.loop-next.invariant.walked c.if-here-scope.false c.get_mut-row.ensures.value

pub loop-next-preserved : goal.loop-next-preserved
loop-next-preserved c =
    let rows = c.loop-next.rows in
    let row = c.get_mut-row.result.now in
    let so = subst (λ o. IsWalked rows.before c.args.scope o rows.items c.args.from c.args.rows.now.items) c.in-Some.is c.loop-next.invariant.walked in
    record {
      before = c.loop-next.invariant.before;
      spare = c.loop-next.invariant.spare;
      walked = step_written rows.before c.args.scope c.in-Some.here rows.items c.args.from c.args.rows.now.items row.below row so (onward_on rows.before c.args.scope c.in-Some.here rows.items row c.if-here-scope.false so.within c.get_mut-row.ensures.value) c.get_mut-row.ensures.value;
    }

pub returns : goal.returns
returns c = walk_written c.args.scope c.loop-next.next c.loop-next.rows c.args.from c.args.rows.now c.in_default.is c.loop-next.invariant

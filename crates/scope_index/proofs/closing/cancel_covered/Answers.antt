-- Each turn cancels a scope and goes on below it.
use Rattle.std.proofs.Common.{◌<◌, ◌∙◌, None, arith, subst, sym}
use Rattle.scope_index.specs.{walk_length}
use Rattle.scope_index.proofs.Covering.{IsWalked, here_latest, here_row, onward_at, onward_past, walk_end, walk_falls, walk_on, walk_start}
use Rattle.scope_index.proofs.closing.cancel_covered.Goals as goal

pub loop-next-init : goal.loop-next-init
loop-next-init c = walk_start c.args.rows.now c.args.cancels.now c.args.from c.args.scope c.args.place

pub cancel-requires-clause-row : goal.cancel-requires-clause-row
cancel-requires-clause-row c =
    here_row c.args.rows.now c.args.cancels.now c.loop-next.cancels c.args.from c.args.scope c.args.place c.in-Some.here c.requires
    (subst (IsWalked c.args.rows.now c.args.cancels.now c.loop-next.cancels c.args.from c.args.scope c.args.place) c.in-Some.is c.loop-next.invariant)

pub cancel-requires-clause-latest : goal.cancel-requires-clause-latest
cancel-requires-clause-latest c =
    here_latest c.args.rows.now c.args.cancels.now c.loop-next.cancels c.args.from c.args.scope c.args.place c.in-Some.here c.requires
    (subst (IsWalked c.args.rows.now c.args.cancels.now c.loop-next.cancels c.args.from c.args.scope c.args.place) c.in-Some.is c.loop-next.invariant)

pub loop-next-smaller-then-here-scope : goal.loop-next-smaller-then-here-scope
loop-next-smaller-then-here-scope c = subst (λ o. walk_length None < walk_length o) (sym c.in-Some.is) (omega arith)

pub loop-next-preserved-then-here-scope : goal.loop-next-preserved-then-here-scope
loop-next-preserved-then-here-scope c =
    subst (IsWalked c.args.rows.now c.args.cancels.now c.cancel.new.self c.args.from c.args.scope c.args.place) (onward_at c.args.rows.now c.args.scope c.in-Some.here c.if-here-scope.true)
    (walk_on c.args.rows.now c.args.cancels.now c.loop-next.cancels c.cancel.new.self c.args.from c.args.scope c.args.place c.in-Some.here c.requires
    (subst (IsWalked c.args.rows.now c.args.cancels.now c.loop-next.cancels c.args.from c.args.scope c.args.place) c.in-Some.is c.loop-next.invariant) c.cancel.ensures)

pub loop-next-smaller : goal.loop-next-smaller
loop-next-smaller c =
    let goes = onward_past c.args.rows.now c.args.scope c.in-Some.here c.if-here-scope.false ∙ sym c.below-next.ensures in
    subst (λ o. walk_length c.below-next.result < walk_length o) (sym c.in-Some.is)
    (walk_falls c.args.rows.now c.args.cancels.now c.loop-next.cancels c.args.from c.args.scope c.args.place c.in-Some.here c.below-next.result c.requires
    (subst (IsWalked c.args.rows.now c.args.cancels.now c.loop-next.cancels c.args.from c.args.scope c.args.place) c.in-Some.is c.loop-next.invariant) goes)

pub loop-next-preserved : goal.loop-next-preserved
loop-next-preserved c =
    let goes = onward_past c.args.rows.now c.args.scope c.in-Some.here c.if-here-scope.false ∙ sym c.below-next.ensures in
    subst (IsWalked c.args.rows.now c.args.cancels.now c.cancel.new.self c.args.from c.args.scope c.args.place) goes
    (walk_on c.args.rows.now c.args.cancels.now c.loop-next.cancels c.cancel.new.self c.args.from c.args.scope c.args.place c.in-Some.here c.requires
    (subst (IsWalked c.args.rows.now c.args.cancels.now c.loop-next.cancels c.args.from c.args.scope c.args.place) c.in-Some.is c.loop-next.invariant) c.cancel.ensures)

pub returns-clause-followed : goal.returns-clause-followed
returns-clause-followed c =
    walk_end c.args.rows.now c.args.cancels.now c.loop-next.cancels c.args.from c.args.scope c.args.place
    (subst (IsWalked c.args.rows.now c.args.cancels.now c.loop-next.cancels c.args.from c.args.scope c.args.place) c.in_default.is c.loop-next.invariant)

pub returns-clause-accounts : goal.returns-clause-accounts
returns-clause-accounts c = c.loop-next.invariant.accounts

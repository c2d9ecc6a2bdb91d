-- The walk goes down until it has come past the scope, or nothing is left.
use Rattle.std.proofs.Common.{◌≡◌, arith, subst}
use Rattle.scope_rows.specs.{LEVEL_LIMIT}
use Rattle.scope_rows.proofs.NestWalks.{AreWalked, walk_end, walk_on, walk_out, walk_past, walk_start}
use Rattle.scope_rows.proofs.nests.next_unclosed.Goals as goal

pub loop-level-init : goal.loop-level-init
loop-level-init c = walk_start c.args.rows.now c.args.actor c.args.scope c.innermost-next.result c.innermost-next.ensures.agrees

pub returns-in_default : goal.returns-in_default
returns-in_default c = walk_end c.args.rows.now c.args.actor c.args.scope c.loop-level._level c.loop-level.found c.loop-level.next c.in_default.is c.loop-level.invariant

pub returns-then-here-scope : goal.returns-then-here-scope
returns-then-here-scope c =
    walk_past c.args.rows.now c.args.actor c.args.scope c.loop-level._level c.in-Some.here c.loop-level.found c.loop-level.next c.in-Some.is (omega (arith, c.if-here-scope.true)) c.loop-level.invariant

pub loop-level-preserved : goal.loop-level-preserved
loop-level-preserved c =
    walk_on c.args.rows.now c.args.actor c.args.scope c.loop-level._level c.in-Some.here c.loop-level.found c.below-next.result
    (subst (AreWalked c.args.rows.now c.args.actor c.args.scope c.loop-level._level c.loop-level.found) c.in-Some.is c.loop-level.invariant) (omega (arith, c.if-here-scope.false)) c.below-next.ensures

pub returns : goal.returns
returns c =
    let all : c.loop-level._level ≡ LEVEL_LIMIT = omega (arith, c.loop-level-test.false, c.loop-level.auto._level-end) in
    walk_out c.args.rows.now c.args.actor c.args.scope c.loop-level.found c.loop-level.next
    (subst (λ n. AreWalked c.args.rows.now c.args.actor c.args.scope n c.loop-level.found c.loop-level.next) all c.loop-level.invariant)

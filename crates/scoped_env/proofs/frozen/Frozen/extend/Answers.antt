-- Each batch has the next of the pairs.
use Rattle.std.proofs.Common.{◌+◌, ◌≤◌, arith, length}
use Rattle.scoped_env.proofs.Batches.{begins_extended, begins_kept, count_extended}
use Rattle.scoped_env.proofs.frozen.Frozen.extend.Goals as goal

pub loop-alloc-init : goal.loop-alloc-init
loop-alloc-init c = begins_kept c.args.pairs.now c.args.self.now c.keep.new.self c.keep.ensures c.requires

pub loop-alloc-preserved : goal.loop-alloc-preserved
loop-alloc-preserved c =
    begins_extended c.args.pairs.now c.loop-alloc.self c.push.new.self c.len-count.result c.piece-len.result c.len-count.ensures
    (omega (arith, c.piece-len.ensures.within, c.len.ensures, c.len-count.ensures, c.loop-alloc-test.true)) c.in_ok-push.ensures.ok c.loop-alloc.invariant

pub loop-alloc-smaller : goal.loop-alloc-smaller
loop-alloc-smaller c =
    let within : c.len-count.result + c.piece-len.result ≤ length c.args.pairs.now = omega (arith, c.piece-len.ensures.within, c.len.ensures, c.len-count.ensures, c.loop-alloc-test.true) in
    omega (arith, count_extended c.args.pairs.now c.loop-alloc.self c.push.new.self c.len-count.result c.piece-len.result c.len-count.ensures within c.in_ok-push.ensures.ok, within, c.piece-len.ensures.some, c.len.ensures, c.len-count.ensures, c.loop-alloc-test.true)

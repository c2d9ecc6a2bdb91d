-- Each pair gives its key its value.
use Rattle.scoped_env.proofs.Words.{length, refl, slice_get_read}
use Rattle.scoped_env.proofs.Indexing.{latest_next, latest_none, writes_of}
use Rattle.scoped_env.proofs.keys.latest_of.Goals as goal

pub loop-pair-init : goal.loop-pair-init
loop-pair-init c = latest_none c.new-latest.result c.new-latest.ensures.empty

pub loop-pair-preserved : goal.loop-pair-preserved
loop-pair-preserved c =
    latest_next c.loop-pair.latest c.insert.new.self c.args.pairs.now c.loop-pair.pair-index c.pair-item.result (slice_get_read c.args.pairs.now (length c.args.pairs.now) c.loop-pair.pair-index c.pair-item.result refl c.loop-pair-test.true c.pair-item.is) c.loop-pair.invariant
    (writes_of c.loop-pair.latest c.insert.new.self c.pair-item.result.key _ c.in_ok-insert.ensures.updates.0)

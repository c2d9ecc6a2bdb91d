-- Each batch is added whole.
use Rattle.std.proofs.Common.{◌++◌, ◌∙◌, ap, length, refl, sym}
use Rattle.scoped_env.proofs.Words.{slice_get_read}
use Rattle.scoped_env.proofs.Batches.{joined_next}
use Rattle.scoped_env.proofs.shared.pairs_in.Goals as goal

pub loop-batch-preserved : goal.loop-batch-preserved
loop-batch-preserved c =
    let batches = c.args.batches.now in
    let batch = c.batch-item.result in
    let next = slice_get_read batches (length batches) c.loop-batch.batch-index batch refl c.loop-batch-test.true c.batch-item.is in
    c.in_ok-extend_from_slice.ensures.items
    ∙ (ap (λ xs. c.loop-batch.pairs.items ++ xs) c.as_slice.ensures
    ∙ (ap (λ xs. xs ++ batch) c.loop-batch.invariant ∙ sym (joined_next batches c.loop-batch.batch-index batch next)))

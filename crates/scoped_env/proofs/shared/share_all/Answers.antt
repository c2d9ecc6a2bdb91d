-- Each batch comes behind the others.
use Rattle.std.proofs.Common.{◌++◌, ◌∙◌, ap, append_assoc, length, refl, sym, take}
use Rattle.scoped_env.specs.{joined}
use Rattle.scoped_env.proofs.Words.{slice_get_read}
use Rattle.scoped_env.proofs.Batches.{joined_more, joined_next}
use Rattle.scoped_env.proofs.shared.share_all.Goals as goal

pub loop-batch-preserved : goal.loop-batch-preserved
loop-batch-preserved c =
    let batches = c.args.batches.now in
    let batch = c.batch-item.result in
    let next = slice_get_read batches (length batches) c.loop-batch.batch-index batch refl c.loop-batch-test.true c.batch-item.is in
    let first = joined c.args.others.now.items in
    ap joined c.in_ok-push.ensures.items
    ∙ (joined_more c.loop-batch.others.items c.in_ok-shared.shared
    ∙ (ap (λ xs. joined c.loop-batch.others.items ++ xs) c.in_ok-shared.ensures
    ∙ (ap (λ xs. xs ++ batch) c.loop-batch.invariant
    ∙ (append_assoc first (joined (take c.loop-batch.batch-index batches)) batch ∙ ap (λ xs. first ++ xs) (sym (joined_next batches c.loop-batch.batch-index batch next))))))

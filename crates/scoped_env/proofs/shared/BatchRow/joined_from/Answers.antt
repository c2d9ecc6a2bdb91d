-- The first batches, and the pairs of the others.
use Rattle.std.proofs.Common.{◌++◌, ◌∙◌, ap, length, sym}
use Rattle.scoped_env.specs.{joined}
use Rattle.scoped_env.proofs.Batches.{joined_from}
use Rattle.scoped_env.proofs.shared.BatchRow.joined_from.Goals as goal

pub returns : goal.returns
returns c =
    joined_from c.deref.result.now c.split_at.result.0.now c.split_at.result.1.now c.share_all.new.others.items c.push.new.self.items c.min.result c.in_ok-batch.batch
    c.split_at.ensures.front c.split_at.ensures.back
    (c.in_ok-share_all.ensures ∙ ap (λ xs. joined xs ++ joined c.split_at.result.0.now) c.new-batches.ensures.items)
    (c.in_ok-batch.ensures ∙ (c.in_ok-pairs.ensures ∙ c.in_ok-pairs_in.ensures))
    c.in_ok-push.ensures.items
    ∙ (ap joined c.deref.ensures.value ∙ c.self.view_is)

pub invariant_of-result : goal.invariant_of-result
invariant_of-result c =
    c.self.invariant
    ∙ sym (ap length (joined_from c.deref.result.now c.split_at.result.0.now c.split_at.result.1.now c.share_all.new.others.items c.push.new.self.items c.min.result c.in_ok-batch.batch
    c.split_at.ensures.front c.split_at.ensures.back
    (c.in_ok-share_all.ensures ∙ ap (λ xs. joined xs ++ joined c.split_at.result.0.now) c.new-batches.ensures.items)
    (c.in_ok-batch.ensures ∙ (c.in_ok-pairs.ensures ∙ c.in_ok-pairs_in.ensures))
    c.in_ok-push.ensures.items
    ∙ ap joined c.deref.ensures.value))

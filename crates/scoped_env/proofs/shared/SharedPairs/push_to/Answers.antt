-- A few pairs are one batch.
use Rattle.std.proofs.Common.{◌++◌, ◌∙◌, ap, sym}
use Rattle.scoped_env.specs.{joined, pairs_of}
use Rattle.scoped_env.proofs.Batches.{joined_more}
use Rattle.scoped_env.proofs.shared.SharedPairs.push_to.Goals as goal

pub returns-in_ok-push-in-Few : goal.returns-in_ok-push-in-Few
returns-in_ok-push-in-Few c =
    ap joined c.in_ok-push-in-Few.ensures.items
    ∙ (joined_more c.args.batches.now.items c.in_ok-batch-in-Few.batch
    ∙ ap (λ xs. joined c.args.batches.now.items ++ xs) (c.in_ok-batch-in-Few.ensures ∙ (c.in_ok-clone-in-Few.ensures.cases ∙ (ap pairs_of (sym c.in-Few.is) ∙ c.self.view_is))))

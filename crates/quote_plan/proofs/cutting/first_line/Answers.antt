use Rattle.quote_plan.specs.{is_feed}
use Rattle.quote_plan.proofs.Words.{◌∙◌, sym}
use Rattle.quote_plan.proofs.Cuts.{cut_at, cut_first, no_feed}
use Rattle.quote_plan.proofs.cutting.first_line.Goals as goal

pub returns-clause-pieces : goal.returns-clause-pieces
returns-clause-pieces c =
    rw (c.split_at.ensures.front, c.split_at-2.ensures.back) (cut_first is_feed c.args.bytes.now c.in_ok-end.end (sym c.first_feed.ensures ∙ c.in_ok-end.was))

pub returns-in_err-end-clause-whole : goal.returns-in_err-end-clause-whole
returns-in_err-end-clause-whole c =
    rw c.from_residual.ensures (no_feed c.args.bytes.now (sym c.first_feed.ensures ∙ c.in_err-end.was))

pub returns-clause-whole : goal.returns-clause-whole
returns-clause-whole c =
    rw (c.split_at.ensures.front, c.split_at-2.ensures.back) (cut_at c.args.bytes.now c.in_ok-end.end (sym c.first_feed.ensures ∙ c.in_ok-end.was))

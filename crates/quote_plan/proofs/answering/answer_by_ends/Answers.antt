use Rattle.quote_plan.specs.{Outcome}
use Rattle.quote_plan.proofs.Words.{◌∙◌, ap, sym}
use Rattle.quote_plan.proofs.Allowing.{all_rests, part_rests}
use Rattle.quote_plan.proofs.answering.answer_by_ends.Goals as goal

pub returns-in_default-Partial-clause-rests : goal.returns-in_default-Partial-clause-rests
returns-in_default-Partial-clause-rests c =
    part_rests c.args.plan.now.mode c.args.plan.now.offers c.args.tasks.now c.args.outcome.now _ c.partial_answer.result (c.in_default-Partial.is-1 ∙ ap Outcome.Partial (sym c.as_slice.ensures)) c.partial_answer.ensures

pub returns-in-All-All-clause-rests : goal.returns-in-All-All-clause-rests
returns-in-All-All-clause-rests c =
    all_rests c.args.plan.now.mode c.args.plan.now.offers c.args.tasks.now c.args.outcome.now _ c.all_answer.result (sym c.mode.ensures ∙ c.in-All-All.is-0) (c.in-All-All.is-1 ∙ ap Outcome.All (sym c.as_slice-in-All-All.ensures)) c.all_answer.ensures

use Rattle.script_jobs.specs.{codes}
use Rattle.script_jobs.proofs.Words.{IfOk-weaker}
use Rattle.script_jobs.proofs.Made.{fallback}
use Rattle.script_jobs.proofs.making.push_next.Goals as goal

pub returns : goal.returns
returns g c =
    IfOk-weaker c.push_line-else-is_answered_line.result _ _ (λ _ is. record { line = codes "tick 0"; answered = fallback c.line_says_the_command.ensures.line; is = is }) c.push_line-else-is_answered_line.ensures

use Rattle.command_line.proofs.Words.{◌∙◌, IfOk-weaker}
use Rattle.command_line.proofs.Built.{still}
use Rattle.command_line.proofs.application.+with_options.Goals as goal

pub returns-in_ok-with_one-in-len1-up-clause-local : goal.returns-in_ok-with_one-in-len1-up-clause-local
returns-in_ok-with_one-in-len1-up-clause-local t c =
    IfOk-weaker c.with_options.result _ _ (λ m h. h ∙ c.in_ok-with_one-in-len1-up.ensures.globals ∙ still _ _ c.option.ensures.local) c.with_options.ensures.local

use Rattle.std.specs.Prelude.{◌≡◌}
use Rattle.command_line.specs.{App, app_of, with_subcommand}
use Rattle.command_line.proofs.Words.{◌∙◌, IfOk-weaker, ap}
use Rattle.command_line.proofs.application.with_job.Goals as goal

same_top : (program a b : App) → a ≡ b → with_subcommand program a.top ≡ with_subcommand program b.top
same_top program a b same = ap (λ (app : App). with_subcommand program app.top) same

pub returns : goal.returns
returns c =
    IfOk-weaker c.subcommand.result _ _ (λ m h. h.shape c.in_ok-command.ensures.local ∙ same_top (app_of c.args.bare) _ _ c.in_ok-command.ensures.app) c.subcommand.ensures

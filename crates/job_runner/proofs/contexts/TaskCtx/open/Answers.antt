use Rattle.job_runner.specs.{Seen}
use Rattle.job_runner.proofs.Words.{◌∙◌, ap, refl}
use Rattle.job_runner.proofs.Seated.{lists_pushed}
use Rattle.job_runner.proofs.contexts.TaskCtx.open.Goals as goal

pub returns-in-Ok-clause-answer : goal.returns-in-Ok-clause-answer
returns-in-Ok-clause-answer g c = rw (← c.token.view_is) c.in-Ok.ensures.answer.1

pub returns-in-Ok-clause-listed : goal.returns-in-Ok-clause-listed
returns-in-Ok-clause-listed g c =
    lists_pushed c.in-Ok.scope c.args.self.now.opened.items c.reserve.new.self.items c.push_reserved.new.self.items _ refl (ap (λ (s : Seen). s.known) c.new-reader.ensures ∙ c.in-Ok.ensures.cell.1.1) c.reserve.ensures.items c.push_reserved.ensures.items

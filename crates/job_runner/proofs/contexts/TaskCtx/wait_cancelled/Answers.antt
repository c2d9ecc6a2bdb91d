use Rattle.job_runner.proofs.Words.{Some, refl}
use Rattle.job_runner.proofs.Seated.{keeps_others, of_last, shows_last}
use Rattle.job_runner.proofs.contexts.TaskCtx.wait_cancelled.Goals as goal

pub returns-in-Some-clause-shows : goal.returns-in-Some-clause-shows
returns-in-Some-clause-shows g c =
    shows_last c.args.self.now.around c.args.self.now.opened.items c.push_reserved.new.self.items c.pop.new.self.items c.in-Some.open _ (Some c.wait-mark.result) c.in-Some.ensures.items c.push_reserved.ensures.items c.wait-mark.ensures.cell c.wait-mark.ensures.mark

pub returns-in-Some-clause-rest : goal.returns-in-Some-clause-rest
returns-in-Some-clause-rest g c =
    (refl, keeps_others c.args.self.now.around c.args.self.now.opened.items c.push_reserved.new.self.items c.pop.new.self.items c.in-Some.open _ c.in-Some.ensures.items c.push_reserved.ensures.items refl)

pub returns-in-Some-clause-of : goal.returns-in-Some-clause-of
returns-in-Some-clause-of g c =
    of_last c.args.self.now.around c.args.self.now.opened.items c.pop.new.self.items c.in-Some.open c.wait-mark.new.self (Some c.wait-mark.result) c.in-Some.ensures.items c.wait-mark.ensures.cell c.wait-mark.ensures.mark.0

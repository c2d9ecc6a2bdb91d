use Rattle.job_runner.proofs.Words.{refl}
use Rattle.job_runner.proofs.Seated.{keeps_others, of_last, shown_seat, shows_last}
use Rattle.job_runner.proofs.contexts.TaskCtx.checkpoint.Goals as goal

pub returns-in-Some-clause-shows : goal.returns-in-Some-clause-shows
returns-in-Some-clause-shows g c =
    shows_last c.args.self.now.around c.args.self.now.opened.items c.push_reserved.new.self.items c.pop.new.self.items c.in-Some.open _ c.look-mark.result c.in-Some.ensures.items c.push_reserved.ensures.items c.look-mark.ensures.cell c.look-mark.ensures.mark

pub returns-in-Some-clause-rest : goal.returns-in-Some-clause-rest
returns-in-Some-clause-rest g c =
    (refl, keeps_others c.args.self.now.around c.args.self.now.opened.items c.push_reserved.new.self.items c.pop.new.self.items c.in-Some.open _ c.in-Some.ensures.items c.push_reserved.ensures.items refl)

pub returns-in-Some-clause-of : goal.returns-in-Some-clause-of
returns-in-Some-clause-of g c =
    of_last c.args.self.now.around c.args.self.now.opened.items c.pop.new.self.items c.in-Some.open c.look-mark.new.self c.look-mark.result c.in-Some.ensures.items c.look-mark.ensures.cell (shown_seat c.in-Some.open.reader c.look-mark.new.self c.look-mark.result c.look-mark.ensures.mark)

use Rattle.job_runner.specs.{OwnerValue, SeesMore, shown_in}
use Rattle.job_runner.proofs.Words.{refl, subst}
use Rattle.job_runner.proofs.Seated.{keeps_others, of_last, shown_seat, shows_last}
use Rattle.job_runner.proofs.contexts.TaskCtx.wait_by.Goals as goal

pub returns-in-Some-clause-rest : goal.returns-in-Some-clause-rest
returns-in-Some-clause-rest g c = (
  refl,
  subst (λ (t : OwnerValue). SeesMore t c.wait_by-shown.new.token) c.token.view_is c.wait_by-shown.ensures.token,
  keeps_others c.args.self.now.around c.args.self.now.opened.items c.push_reserved.new.self.items c.pop.new.self.items c.in-Some.open _ c.in-Some.ensures.items c.push_reserved.ensures.items refl,
)

pub returns-in-Some-clause-shows : goal.returns-in-Some-clause-shows
returns-in-Some-clause-shows g c =
    shows_last c.args.self.now.around c.args.self.now.opened.items c.push_reserved.new.self.items c.pop.new.self.items c.in-Some.open _ (shown_in c.wait_by-shown.result) c.in-Some.ensures.items c.push_reserved.ensures.items c.wait_by-shown.ensures.cell c.wait_by-shown.ensures.mark

pub returns-in-Some-clause-of : goal.returns-in-Some-clause-of
returns-in-Some-clause-of g c =
    of_last c.args.self.now.around c.args.self.now.opened.items c.pop.new.self.items c.in-Some.open c.wait_by-shown.new.self (shown_in c.wait_by-shown.result) c.in-Some.ensures.items c.wait_by-shown.ensures.cell
    (shown_seat c.in-Some.open.reader c.wait_by-shown.new.self (shown_in c.wait_by-shown.result) c.wait_by-shown.ensures.mark)

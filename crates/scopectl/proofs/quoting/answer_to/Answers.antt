use Rattle.scopectl.specs.{has_late, is_timed, not}
use Rattle.scopectl.proofs.quoting.answer_to.Goals as goal

pub returns-in-None-clause-fault : goal.returns-in-None-clause-fault
returns-in-None-clause-fault g c = c.asked.ensures.fault (is_timed c.args.deadline c.args.after.now) (not (has_late c.args.after.now c.args.plan.now))

pub returns-in-Some-clock-clause-fault : goal.returns-in-Some-clock-clause-fault
returns-in-Some-clock-clause-fault g c = c.asked_by.ensures.fault (is_timed c.args.deadline c.args.after.now) (not (has_late c.args.after.now c.args.plan.now))

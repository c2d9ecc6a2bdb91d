use Rattle.balkreyn_c.proofs.Doors.{asked}
use Rattle.balkreyn_c.proofs.line.perform.Goals as goal

pub returns-in-Ask : goal.returns-in-Ask
returns-in-Ask c = rw c.in-Ask.is (asked c.args.realm.now c.in-Ask.query c.ask.result c.ask.ensures)

use Rattle.balkreyn_c.proofs.Doors.{retired}
use Rattle.balkreyn_c.proofs.line.retire.Goals as goal

pub returns-in-Ok : goal.returns-in-Ok
returns-in-Ok c = rw (c.scopes.ensures, c.tasks.ensures) (retired c.args.realm.now c.retire.new.self c.args.actor c.in-Ok.base c.in-Ok.ensures)

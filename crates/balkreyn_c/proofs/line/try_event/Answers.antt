use Rattle.balkreyn_c.proofs.Lemmas.{accepted}
use Rattle.balkreyn_c.proofs.Doors.{refused_as}
use Rattle.balkreyn_c.proofs.line.try_event.Goals as goal

pub returns-in-Ok : goal.returns-in-Ok
returns-in-Ok c = rw c.reply_of.ensures (accepted c.args.realm.now c.perform.new.self c.args.event c.in-Ok.told c.requires c.in-Ok.ensures)

pub returns-in-Err : goal.returns-in-Err
returns-in-Err c = refused_as c.args.realm.now c.perform.new.self c.args.event c.in-Err.refusal c.not_done.result c.not_done.ensures c.in-Err.ensures

use Rattle.scope_script.proofs.Lemmas.{inr}
use Rattle.scope_script.proofs.Answered.{accepted, no_join, refused}
use Rattle.scope_script.proofs.performing.commands.try_event.Goals as goal

pub returns-in-Ok : goal.returns-in-Ok
returns-in-Ok g c = rw c.reply_of.ensures (inr (accepted _ _ c.args.event.now c.in-Ok.told (no_join c.args.event.now c.in_default.not-Join) c.in-Ok.ensures))

pub returns-in-Err : goal.returns-in-Err
returns-in-Err g c = refused _ _ c.args.event.now c.in-Err.refusal (no_join c.args.event.now c.in_default.not-Join) c.in-Err.ensures

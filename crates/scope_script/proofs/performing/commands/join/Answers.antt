use Rattle.scope_script.proofs.Answered.{join_refused, joined}
use Rattle.scope_script.proofs.performing.commands.join.Goals as goal

pub returns-in-Err : goal.returns-in-Err
returns-in-Err g c = join_refused _ _ c.args.actor c.args.scope _ c.in-Err.ensures.0 c.in-Err.ensures.1

pub returns-in-Ok : goal.returns-in-Ok
returns-in-Ok g c = joined _ _ c.args.actor c.args.scope _ c.in_default.ensures.0 c.in_default.ensures.1 c.in-Ok.ensures

use Rattle.scope_script.specs.{Refused}
use Rattle.scope_script.proofs.Lemmas.{ap}
use Rattle.scope_script.proofs.Refused.{stopped_at}
use Rattle.scope_script.proofs.performing.commands.perform.Goals as goal

pub returns-in-Refused-Memory-clause-stopped : goal.returns-in-Refused-Memory-clause-stopped
returns-in-Refused-Memory-clause-stopped g c = stopped_at _ _ _ _ (ap Refused c.in-Refused-Memory.field-0-is) c.in-Refused-Memory.ensures

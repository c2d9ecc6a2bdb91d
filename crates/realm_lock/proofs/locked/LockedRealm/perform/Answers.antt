use Rattle.realm_lock.specs.{records, step_by}
use Rattle.realm_lock.proofs.Behind.{behind_stepped, step_keeps}
use Rattle.realm_lock.proofs.locked.LockedRealm.perform.Goals as goal

pub catch_up-requires : goal.catch_up-requires
catch_up-requires g c =
    let actor = c.args.token.now.actor in
    let event = c.args.event.now in
    behind_stepped c.self.inside.core c.perform-result.new.self (step_by actor event) (records c.perform-result.result) c.self.inside.setters c.limits-legal.ensures.legal (step_keeps actor event c.requires.unopened) c.perform-result.ensures.steps.1 c.self.invariant

use Rattle.share_ledger.specs.{KeeperValue}
use Rattle.share_ledger.proofs.Words.{ap}
use Rattle.share_ledger.proofs.Telling.{new_ticket}
use Rattle.share_ledger.proofs.keeper.Keeper.fork.Goals as goal

pub new-requires : goal.new-requires
new-requires c =
    let step = c.step_naming-new in
    let known = ap (λ (k : KeeperValue). k.steps) c.self.view_is in
    new_ticket c.share.inside.actor c.args.task c.args.scope c.args.label.now c.self.inside.desk.seat.me.0 step.result.views c.args.self.now.steps known c.requires.number c.requires.live step.ensures.fresh step.ensures.new

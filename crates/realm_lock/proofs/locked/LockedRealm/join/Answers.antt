use Rattle.realm_lock.proofs.Sleeping.{join_busy}
use Rattle.realm_lock.proofs.locked.LockedRealm.join.Goals as goal

pub returns-clause-busy : goal.returns-clause-busy
returns-clause-busy g c =
    let old = c.args.token.now in
    let new = c.join_in-result.new.token in
    join_busy c.self.inside.core c.join_in-result.new.core c.catch_up.new.core old new c.args.scope c.catch_up.ensures.core g.A.JoinAnswer.joins c.join_in-result.result (g.met.A.JoinAnswer.refused old new c.args.scope) c.join_in-result.ensures.steps c.join_in-result.ensures.answer

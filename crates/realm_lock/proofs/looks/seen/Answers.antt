use Rattle.realm_lock.specs.{Realm}
use Rattle.realm_lock.proofs.Words.{subst}
use Rattle.realm_lock.proofs.looks.seen.Goals as goal

pub returns : goal.returns
returns g c = record {
  limits = c.args.core.now.limits;
  steps = c.args.core.now.steps;
  legal = c.limits-limits.ensures.legal;
  fitting = c.limits-limits.ensures.fitting;
  shows = subst (λ (r : Realm). g.L.Look.tells c.args.look r.history c.look.result) c.realm.ensures c.look.ensures;
}

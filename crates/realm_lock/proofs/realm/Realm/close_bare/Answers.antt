use Rattle.realm_lock.specs.{Begins}
use Rattle.realm_lock.proofs.Words.{subst}
use Rattle.realm_lock.proofs.realm.Realm.close_bare.Goals as goal

pub returns-in-Ok-clause-answer : goal.returns-in-Ok-clause-answer
returns-in-Ok-clause-answer g c = (
  (
    c.end_held.ensures.ends.0,
    record {
      begun = c.begin.new.token;
      how = c.in-Ok.field-0;
      same = c.begin.ensures.seen.0;
      begins = subst (λ result. Begins c.args.token.now c.begin.new.token c.args.scope result) c.in-Ok.is c.begin.ensures.answer;
      ends = c.end_held.ensures.ends.1;
    },
  ),
  c.end_held.ensures.verdict,
)

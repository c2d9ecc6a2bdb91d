use Rattle.realm_lock.specs.{Begins}
use Rattle.realm_lock.proofs.Words.{inr, subst}
use Rattle.realm_lock.proofs.realm.Realm.close.Goals as goal

pub returns-in-Err-end_reporting-clause-refused : goal.returns-in-Err-end_reporting-clause-refused
returns-in-Err-end_reporting-clause-refused g c = inr (record {
  begun = c.begin_closing.new.token;
  how = c.in-Ok.field-0;
  same = c.begin_closing.ensures.seen.0;
  begins = subst (λ result. Begins c.args.token.now c.begin_closing.new.token c.args.scope result) c.in-Ok.is c.begin_closing.ensures.answer;
  held = c.in-Err-end_reporting.ensures.not;
})

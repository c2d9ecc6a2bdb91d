use Rattle.realm_lock.specs.{Begins}
use Rattle.realm_lock.proofs.Words.{subst}
use Rattle.realm_lock.proofs.Waits.{stops, waits}
use Rattle.realm_lock.proofs.realm.Realm.await_close_by.Goals as goal

pub returns-in-Ok-clause-answer : goal.returns-in-Ok-clause-answer
returns-in-Ok-clause-answer g c =
    let begun = c.begin_closing.new.token in
    let begins = subst (λ result. Begins c.args.token.now begun c.args.scope result) c.in-Ok.is c.begin_closing.ensures.answer in
    waits g.T.Time.reads c.args.token.now begun c.await_ends_by.new.token c.args.time.now c.await_ends_by.new.time c.args.scope c.in-Ok.field-0 c.await_ends_by.result c.begin_closing.ensures.seen.0 begins c.await_ends_by.ensures.begun c.await_ends_by.ensures.answer

pub returns-in-Ok-clause-sure : goal.returns-in-Ok-clause-sure
returns-in-Ok-clause-sure g c = λ mine.
    let begun = c.begin_closing.new.token in
    let begins = subst (λ result. Begins c.args.token.now begun c.args.scope result) c.in-Ok.is c.begin_closing.ensures.answer in
    stops g.T.Time.reads c.args.token.now begun c.await_ends_by.new.token c.args.time.now c.await_ends_by.new.time c.args.scope c.in-Ok.field-0 c.await_ends_by.result c.begin_closing.ensures.seen.0 begins c.await_ends_by.ensures.begun c.await_ends_by.ensures.answer

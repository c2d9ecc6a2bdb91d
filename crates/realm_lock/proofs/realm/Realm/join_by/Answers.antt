use Rattle.realm_lock.specs.{began}
use Rattle.realm_lock.proofs.Words.{Err, Ok, refl}
use Rattle.realm_lock.proofs.Waits.{joined_in, unready_in, waited_sees}
use Rattle.realm_lock.proofs.realm.Realm.join_by.Goals as goal

pub loop-init : goal.loop-init
loop-init g c = ((tt, tt), refl, began)

pub loop-preserved : goal.loop-preserved
loop-preserved g c =
    let new = c.join_in_time.new.token in
    let r = c.in-Err-NotReady.field-0 in
    let next = unready_in g.A.JoinAnswer.joins c.loop.token new c.loop.time c.read-now.new.self c.args.scope c.read-now.result c.loop.invariant.2 c.read-now.ensures.read r c.in-Err-NotReady.field-0-is (λ mid. g.met.A.JoinAnswer.refused mid new c.args.scope r) c.in-Err-NotReady.ensures.answer in
    ((tt, tt), waited_sees new c.read-now.new.self next, next)

pub returns-in-Err-clause-answer : goal.returns-in-Err-clause-answer
returns-in-Err-clause-answer g c =
    joined_in g.A.JoinAnswer.joins c.loop.token c.join_in_time.new.token c.loop.time c.read-now.new.self c.args.scope c.read-now.result c.loop.invariant.2 c.read-now.ensures.read (Err c.in-Err.refusal) c.in-Err.ensures.answer

pub returns-in-Ok-clause-answer : goal.returns-in-Ok-clause-answer
returns-in-Ok-clause-answer g c =
    joined_in g.A.JoinAnswer.joins c.loop.token c.join_in_time.new.token c.loop.time c.read-now.new.self c.args.scope c.read-now.result c.loop.invariant.2 c.read-now.ensures.read (Ok c.in-Ok.joined) c.in-Ok.ensures.answer

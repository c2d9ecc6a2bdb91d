use Rattle.realm_lock.specs.{began}
use Rattle.realm_lock.proofs.Words.{refl}
use Rattle.realm_lock.proofs.Waits.{stopped_in, turns_in, waited_sees}
use Rattle.realm_lock.proofs.realm.Realm.pause_by.Goals as goal

pub loop-init : goal.loop-init
loop-init g c = ((tt, tt), refl, began)

pub loop-preserved : goal.loop-preserved
loop-preserved g c =
    let next = turns_in c.read-now.result c.loop.token c.pass_due.new.token c.loop.time c.read-now.new.self c.loop.invariant.2 c.read-now.ensures.read (_, c.in_default.ensures.passes) in
    ((tt, tt), waited_sees c.pass_due.new.token c.read-now.new.self next, next)

pub returns-then-is_over-clause-answer : goal.returns-then-is_over-clause-answer
returns-then-is_over-clause-answer g c =
    turns_in c.read-now.result c.loop.token c.pass_due.new.token c.loop.time c.read-now.new.self c.loop.invariant.2 c.read-now.ensures.read (_, c.in_default.ensures.passes)

pub returns-in-Err-clause-answer : goal.returns-in-Err-clause-answer
returns-in-Err-clause-answer g c =
    stopped_in c.read-now.result c.loop.token c.pass_due.new.token c.loop.time c.read-now.new.self c.in-Err.refusal c.loop.invariant.2 c.read-now.ensures.read c.in-Err.ensures.passes

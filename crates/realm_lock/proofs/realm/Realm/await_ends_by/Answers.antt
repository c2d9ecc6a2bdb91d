use Rattle.realm_lock.specs.{began, history_seen}
use Rattle.realm_lock.proofs.Words.{refl}
use Rattle.realm_lock.proofs.Waits.{of_first, stopped_in, turns_in, waited_sees}
use Rattle.realm_lock.proofs.realm.Realm.await_ends_by.Goals as goal

pub loop-init : goal.loop-init
loop-init g c = ((tt, tt), refl, began, c.requires.begun)

pub returns-in-Ok-true-clause-answer : goal.returns-in-Ok-true-clause-answer
returns-in-Ok-true-clause-answer g c =
    turns_in c.read-now.result c.loop.token c.is_settled_in_time.new.token c.loop.time c.read-now.new.self c.loop.invariant.2 c.read-now.ensures.read c.in-Ok-true.ensures.turned

pub loop-preserved : goal.loop-preserved
loop-preserved g c =
    let new = c.is_settled_in_time.new.token in
    let next = turns_in c.read-now.result c.loop.token new c.loop.time c.read-now.new.self c.loop.invariant.2 c.read-now.ensures.read c.in-Ok-false.ensures.turned in (
      (tt, tt),
      waited_sees new c.read-now.new.self next,
      next,
      of_first c.args.token.now c.loop.token (history_seen new) c.args.scope c.loop.invariant.1 c.is_settled_in_time.ensures.begun,
    )

pub returns-in-Err-clause-answer : goal.returns-in-Err-clause-answer
returns-in-Err-clause-answer g c =
    stopped_in c.read-now.result c.loop.token c.is_settled_in_time.new.token c.loop.time c.read-now.new.self c.in-Err.refusal c.loop.invariant.2 c.read-now.ensures.read c.in-Err.ensures.turned

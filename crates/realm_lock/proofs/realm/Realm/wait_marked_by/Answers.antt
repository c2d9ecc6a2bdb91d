use Rattle.realm_lock.specs.{began}
use Rattle.realm_lock.proofs.Words.{◌∙◌, refl, sym}
use Rattle.realm_lock.proofs.Waits.{none_of, stopped_in, turns_in, waited_sees}
use Rattle.realm_lock.proofs.realm.Realm.wait_marked_by.Goals as goal

pub loop-init : goal.loop-init
loop-init g c = ((tt, tt), refl, began, c.requires.seat, refl)

pub returns-then-is_over-clause-answer : goal.returns-then-is_over-clause-answer
returns-then-is_over-clause-answer g c = turns_in c.read-now.result c.loop.token c.marked_in_time.new.token c.loop.time c.read-now.new.self c.loop.invariant.2 c.read-now.ensures.read c.in-Ok-None.ensures.passes

pub returns-in-Ok-Some-clause-answer : goal.returns-in-Ok-Some-clause-answer
returns-in-Ok-Some-clause-answer g c = turns_in c.read-now.result c.loop.token c.marked_in_time.new.token c.loop.time c.read-now.new.self c.loop.invariant.2 c.read-now.ensures.read c.in-Ok-Some.ensures.passes

pub returns-in-Err-clause-answer : goal.returns-in-Err-clause-answer
returns-in-Err-clause-answer g c =
    stopped_in c.read-now.result c.loop.token c.marked_in_time.new.token c.loop.time c.read-now.new.self c.in-Err.refusal c.loop.invariant.2 c.read-now.ensures.read c.in-Err.ensures.passes

pub loop-preserved : goal.loop-preserved
loop-preserved g c =
    let new = c.marked_in_time.new.token in
    let next = turns_in c.read-now.result c.loop.token new c.loop.time c.read-now.new.self c.loop.invariant.2 c.read-now.ensures.read c.in-Ok-None.ensures.passes in
    let unshown = none_of c.in-Ok-None.field-0 _ _ c.in-Ok-None.field-0-is c.in-Ok-None.ensures.mark in
    ((tt, tt), waited_sees new c.read-now.new.self next, next, c.marked_in_time.ensures.cell, unshown.1 ∙ (sym unshown.0 ∙ c.loop.invariant.4))

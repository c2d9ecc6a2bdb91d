use Rattle.std.proofs.Common.{◌+◌, ◌∙◌, ◌≡◌, Some, ap, arith, get_or, length, slice_get, subst, sym, take}
use Rattle.realm_core.proofs.Words.{IsPermutation-trans, slice_get-get_or, take-length}
use Rattle.realm_core.proofs.Placing.{IsPlacing, placing_ends, placing_goes_on, placing_misses}
use Rattle.realm_core.proofs.tickets.place_all.Goals as goal

pub returns-in_default-clause-same : goal.returns-in_default-clause-same
returns-in_default-clause-same c = IsPermutation-trans c.args.tickets.now.items c.loop-task.tickets.items c.place_one.new.tickets.items c.loop-task.invariant.same c.place_one.ensures.same

pub returns-in_default-clause-placed : goal.returns-in_default-clause-placed
returns-in_default-clause-placed c =
    let h = c.args.realm.now.history in
    let tasks = c.tasks_of-tasks.result.now in
    let i = c.loop-task.task-index in
    placing_misses h c.args.scope c.args.first c.args.tickets.now.items c.loop-task.tickets.items c.place_one.new.tickets.items c.loop-task.place i (get_or tasks i 0)
    (subst (λ ts. IsPlacing h ts c.args.first c.args.tickets.now.items c.loop-task.tickets.items c.loop-task.place i) c.tasks_of-tasks.ensures c.loop-task.invariant)
    (subst (λ ts. slice_get ts i ≡ Some (get_or tasks i 0)) c.tasks_of-tasks.ensures (slice_get-get_or tasks i 0 c.loop-task-test.true))
    c.place_one.ensures.same c.place_one.ensures.before c.in_default.ensures.placed

pub loop-task-preserved : goal.loop-task-preserved
loop-task-preserved c =
    let h = c.args.realm.now.history in
    let tasks = c.tasks_of-tasks.result.now in
    let i = c.loop-task.task-index in
    subst (λ ts. IsPlacing h ts c.args.first c.args.tickets.now.items c.place_one.new.tickets.items c.in-Some.next (i + 1)) (sym c.tasks_of-tasks.ensures)
    (placing_goes_on h c.args.scope c.args.first c.args.tickets.now.items c.loop-task.tickets.items c.place_one.new.tickets.items c.loop-task.place i (get_or tasks i 0)
    (subst (λ ts. IsPlacing h ts c.args.first c.args.tickets.now.items c.loop-task.tickets.items c.loop-task.place i) c.tasks_of-tasks.ensures c.loop-task.invariant)
    (subst (λ ts. slice_get ts i ≡ Some (get_or tasks i 0)) c.tasks_of-tasks.ensures (slice_get-get_or tasks i 0 c.loop-task-test.true))
    c.place_one.ensures.same c.place_one.ensures.before c.in-Some.next c.in-Some.ensures.placed)

pub returns-clause-placed : goal.returns-clause-placed
returns-clause-placed c =
    let h = c.args.realm.now.history in
    let tasks = c.tasks_of-tasks.result.now in
    let i = c.loop-task.task-index in
    let full : i ≡ length tasks = omega arith in
    placing_ends h c.args.scope c.args.first c.args.tickets.now.items c.loop-task.tickets.items c.loop-task.place i
    (subst (λ ts. IsPlacing h ts c.args.first c.args.tickets.now.items c.loop-task.tickets.items c.loop-task.place i) c.tasks_of-tasks.ensures c.loop-task.invariant)
    (subst (λ ts. take i ts ≡ ts) c.tasks_of-tasks.ensures (ap (λ n. take n tasks) full ∙ take-length tasks))

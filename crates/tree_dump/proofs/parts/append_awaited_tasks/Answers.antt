-- Each task that waits or runs adds its line.
use Rattle.std.proofs.Common.{◌++◌, ◌∙◌, ap, append-nil, arith, string_bytes, sym}
use Rattle.tree_dump.specs.{awaited_task, clock_of, flat_map, tasks_of}
use Rattle.tree_dump.proofs.{Awaiting.tasks_awaited, Parted.task_more, TextWalked.all_before, TextWalked.all_below, TextWalked.none_if}
use Rattle.tree_dump.proofs.parts.append_awaited_tasks.Goals as goal

pub loop-index-init : goal.loop-index-init
loop-index-init g c = sym (append-nil (string_bytes c.args.text.now))

pub loop-index-preserved : goal.loop-index-preserved
loop-index-preserved g c =
    let h = g.R.Readings.history c.args.readings.now in
    task_more (awaited_task (clock_of c.args.ages.now) h) (tasks_of h c.args.scope) c.loop-index.index c.in-Some.task (string_bytes c.args.text.now) (string_bytes c.loop-index.text) (string_bytes c.append_awaited_task.new.text)
    (sym c.task_at.ensures ∙ c.in-Some.is) c.loop-index.invariant c.in_ok-append_awaited_task.ensures

pub returns-after-loop-index : goal.returns-after-loop-index
returns-after-loop-index g c =
    let h = g.R.Readings.history c.args.readings.now in
    c.loop-index.invariant ∙ (ap (λ ks. string_bytes c.args.text.now ++ flat_map (awaited_task (clock_of c.args.ages.now) h) ks) (all_below h c.args.scope c.loop-index.index c.tasks-index-end.result c.tasks-index-end.ensures (omega (arith, c.loop-index-test.false)))
    ∙ ap (λ l. string_bytes c.args.text.now ++ l) (tasks_awaited (clock_of c.args.ages.now) h c.args.scope))

pub returns-in_default : goal.returns-in_default
returns-in_default g c =
    let h = g.R.Readings.history c.args.readings.now in
    c.loop-index.invariant ∙ (ap (λ ks. string_bytes c.args.text.now ++ flat_map (awaited_task (clock_of c.args.ages.now) h) ks) (all_before (tasks_of h c.args.scope) c.loop-index.index (sym c.task_at.ensures ∙ none_if c.task_at.result c.in_default.not-Some))
    ∙ ap (λ l. string_bytes c.args.text.now ++ l) (tasks_awaited (clock_of c.args.ages.now) h c.args.scope))

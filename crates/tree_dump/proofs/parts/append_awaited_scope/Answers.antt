-- What is waited for of the scope is written.
use Rattle.std.proofs.Common.{◌++◌, ◌∙◌, ap, append_assoc, string_bytes, sym}
use Rattle.tree_dump.specs.{clock_of, filter, flat_map, is_unsettled, scope_line, task_line, task_numbers}
use Rattle.tree_dump.proofs.Lemmas.{on_ok_weaker}
use Rattle.tree_dump.proofs.{Awaiting.awaiting, Awaiting.not_awaiting, Walked.info_scope}
use Rattle.tree_dump.proofs.parts.append_awaited_scope.Goals as goal

pub returns-then-is_settled : goal.returns-then-is_settled
returns-then-is_settled g c =
    let h = g.R.Readings.history c.args.readings.now in
    not_awaiting (clock_of c.args.ages.now) h c.args.scope c.in-Some.info.scope (string_bytes c.args.text.now) (info_scope h c.args.scope c.in-Some.info (sym c.info_at.ensures.info ∙ c.in-Some.is)) (sym c.is_settled.ensures ∙ c.if-is_settled.true)

pub returns : goal.returns
returns g c =
    let h = g.R.Readings.history c.args.readings.now in
    let clock = clock_of c.args.ages.now in
    let i = c.in-Some.info in
    let old = string_bytes c.args.text.now in
    let tasks = flat_map (task_line clock h 1) (filter (is_unsettled h i.scope) (task_numbers h)) in
    on_ok_weaker c.append_awaited_tasks.result (λ more. more ∙ (ap (λ t. t ++ tasks) c.in_ok-append_scope_line.ensures ∙ (append_assoc old (scope_line clock h 0 i) tasks
    ∙ ap (λ l. old ++ l) (sym (awaiting clock h c.args.scope i (sym c.info_at.ensures.info ∙ c.in-Some.is) (sym c.closed.ensures ∙ c.if-closed.false) (sym c.is_settled.ensures ∙ c.if-is_settled.false)))))) c.append_awaited_tasks.ensures

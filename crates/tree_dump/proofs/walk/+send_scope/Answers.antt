-- What was sent is the object of what stands there.
use Rattle.std.proofs.Common.{◌-◌, ◌∙◌, ◌≡◌, Some, ap, arith, option_map, subst, suc, sym}
use Rattle.tree_dump.specs.{Logs, SendsValue, Tree.nested, clock_of, inner, map_begins, null, option_map_or, scope_object, seq_begins, task_object, task_shown, task_times, tasks_of, tasks_shown}
use Rattle.tree_dump.proofs.Lemmas.{on_ok_weaker}
use Rattle.tree_dump.proofs.{Sent.item_sent, Sent.items_end, Sent.scope_sent, Sent.shown_len, Sent.task_sent, Walked.nested_absent, Walked.nested_none, Walked.nested_shown}
use Rattle.tree_dump.proofs.walk.+send_scope.Goals as goal

pub send_scope-returns-then-levels-eq0 : goal.send_scope-returns-then-levels-eq0
send_scope-returns-then-levels-eq0 g t c =
    let h = g.R.Readings.history c.args.readings.now in
    let by = option_map (λ a. clock_of a.now) c.args.ages in
    on_ok_weaker c.unit.result (λ e. subst (λ d. SendsValue d (g.S.Serializer.written c.args.out.now) (g.S.Serializer.written c.unit.new.self)) (sym (nested_none by h c.args.levels c.args.place c.if-levels-eq0.true)) e) c.unit.ensures

pub send_scope-returns-in_default : goal.send_scope-returns-in_default
send_scope-returns-in_default g t c =
    let h = g.R.Readings.history c.args.readings.now in
    let by = option_map (λ a. clock_of a.now) c.args.ages in
    on_ok_weaker c.unit-in_default.result (λ e. subst (λ d. SendsValue d (g.S.Serializer.written c.args.out.now) (g.S.Serializer.written c.unit-in_default.new.self)) (sym (nested_absent by h c.args.levels c.args.place (sym c.info_at.ensures.info ∙ c.in_default.is))) e) c.unit-in_default.ensures

pub send_scope-returns : goal.send_scope-returns
send_scope-returns g t c =
    let h = g.R.Readings.history c.args.readings.now in
    let by = option_map (λ a. clock_of a.now) c.args.ages in
    let w = g.S.Serializer.written in
    let i = c.in-Some.info in
    let within = nested by h (c.args.levels - 1) in
    let more : c.args.levels ≡ suc (c.args.levels - 1) = omega (arith, c.if-levels-eq0.false) in
    let whole = nested_shown by h c.args.levels (c.args.levels - 1) c.args.place i more (sym c.info_at.ensures.info ∙ c.in-Some.is)
    ∙ ap (λ since. scope_object i since (within (inner h i.scope)) (tasks_shown by h within i.scope)) (sym c.scope_since-since.ensures) in
    on_ok_weaker c.end_map.result (λ e. subst (λ d. SendsValue d (w c.args.out.now) (w c.end_map.new.self)) (sym whole)
    (scope_sent i c.scope_since-since.result (within (inner h i.scope)) (tasks_shown by h within i.scope) c.expiry_word.result.now c.scope_stage_word.result.now
    (w c.args.out.now) (w c.begin_map.new.self) (w c.send_cause.new.out) (w c.send_time.new.out) (w c.send_text.new.out) (w c.send_number.new.out) (w c.send_scope.new.out)
    (w c.send_flag.new.out) (w c.send_joiner.new.out) (w c.send_number-2.new.out) (w c.send_flag-2.new.out) (w c.send_since.new.out) (w c.send_text-2.new.out) (w c.send_tasks.new.out) (w c.end_map.new.self)
    c.expiry_word.ensures c.scope_stage_word.ensures (subst (λ n. Logs (w c.args.out.now) (w c.begin_map.new.self) (map_begins (Some n))) c.scope_members.ensures c.in_ok-begin_map.ensures) c.in_ok-send_cause.ensures c.in_ok-send_time.ensures c.in_ok-send_text.ensures c.in_ok-send_number.ensures
    (w c.key.new.self, c.in_ok-key.ensures, subst (λ p. SendsValue (within p) (w c.key.new.self) (w c.send_scope.new.out)) c.inner.ensures c.in_ok-send_scope.ensures)
    c.in_ok-send_flag.ensures c.in_ok-send_joiner.ensures c.in_ok-send_number-2.ensures c.in_ok-send_flag-2.ensures c.in_ok-send_since.ensures c.in_ok-send_text-2.ensures
    (w c.key-2.new.self, c.in_ok-key-2.ensures, c.in_ok-send_tasks.ensures) e)) c.end_map.ensures

pub send_task-returns : goal.send_task-returns
send_task-returns g t c =
    let h = g.R.Readings.history c.args.readings.now in
    let by = option_map (λ a. clock_of a.now) c.args.ages in
    let w = g.S.Serializer.written in
    let told = c.in-Some.told in
    let within = nested by h c.args.levels in
    let shown = ap (λ o. option_map_or (λ t. task_object t (option_map (λ a. task_times a h t.task t.stage) by) (within t.inner)) o null) (sym c.task_told.ensures ∙ c.in-Some.is)
    ∙ ap (λ times. task_object told times (within told.inner)) (sym c.task_times-times.ensures) in
    on_ok_weaker c.end_map.result (λ e. subst (λ d. SendsValue d (w c.args.out.now) (w c.end_map.new.self)) (sym shown)
    (task_sent told c.task_times-times.result (within told.inner) c.as_str.result.now c.word.result.now c.word-2.result.now
    (w c.args.out.now) (w c.begin_map.new.self) (w c.send_ended.new.out) (w c.send_number.new.out) (w c.send_scope.new.out) (w c.send_text.new.out) (w c.send_result.new.out) (w c.send_started.new.out) (w c.send_text-2.new.out) (w c.send_text-3.new.out) (w c.end_map.new.self)
    c.as_str.ensures c.word.ensures c.word-2.ensures (subst (λ n. Logs (w c.args.out.now) (w c.begin_map.new.self) (map_begins (Some n))) c.task_members.ensures c.in_ok-begin_map.ensures) c.in_ok-send_ended.ensures c.in_ok-send_number.ensures
    (w c.key.new.self, c.in_ok-key.ensures, c.in_ok-send_scope.ensures) c.in_ok-send_text.ensures c.in_ok-send_result.ensures c.in_ok-send_started.ensures c.in_ok-send_text-2.ensures c.in_ok-send_text-3.ensures e)) c.end_map.ensures

pub send_tasks-loop-index-preserved : goal.send_tasks-loop-index-preserved
send_tasks-loop-index-preserved g t c =
    let h = g.R.Readings.history c.args.readings.now in
    let by = option_map (λ a. clock_of a.now) c.args.ages in
    let w = g.S.Serializer.written in
    λ end rest. c.loop-index.invariant end (item_sent (task_shown by h (nested by h c.args.levels)) (tasks_of h c.args.scope) c.loop-index.index c.in-Some.task
    (w c.loop-index.out) (w c.send_task.new.out) end (sym c.task_at.ensures ∙ c.in-Some.is) c.in_ok-send_task.ensures rest)

pub send_tasks-returns : goal.send_tasks-returns
send_tasks-returns g t c =
    let h = g.R.Readings.history c.args.readings.now in
    let by = option_map (λ a. clock_of a.now) c.args.ages in
    let w = g.S.Serializer.written in
    let ks = tasks_of h c.args.scope in
    let shown = task_shown by h (nested by h c.args.levels) in
    let many = c.task_count-count.ensures ∙ sym (shown_len shown ks) in
    on_ok_weaker c.end_seq.result (λ e. (
      w c.begin_seq.new.self,
      subst (λ n. Logs (w c.args.out.now) (w c.begin_seq.new.self) (seq_begins (Some n))) many c.in_ok-begin_seq.ensures,
      c.loop-index.invariant (w c.end_seq.new.self) (items_end shown ks c.loop-index.index (w c.loop-index.out) (w c.end_seq.new.self) (omega (arith, c.task_count-count.ensures)) e),
    )) c.end_seq.ensures

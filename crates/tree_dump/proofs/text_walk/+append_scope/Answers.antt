-- Each task adds its lines, and then comes what lies inside the scope.
use Rattle.std.proofs.Common.{ℕ, ◌++◌, ◌+◌, ◌-◌, ◌∙◌, ◌≡◌, List, ap, arith, string_bytes, sym, take}
use Rattle.tree_dump.specs.{History, TextTree.nested, clock_of, scope_line, tasks_of}
use Rattle.tree_dump.proofs.Lemmas.{on_ok_weaker}
use Rattle.tree_dump.proofs.{TextWalked.all_before, TextWalked.all_below, TextWalked.no_levels, TextWalked.no_scope, TextWalked.none_if, TextWalked.none_yet, TextWalked.scope_whole, TextWalked.task_more}
use Rattle.tree_dump.proofs.{text_walk.+append_scope.Goals.else-loop-index-test, text_walk.+append_scope.Goals.then-loop-index-test+in_default-task_at}
use Rattle.tree_dump.proofs.text_walk.+append_scope.Goals as goal

pub returns-then-levels-eq0 : goal.returns-then-levels-eq0
returns-then-levels-eq0 g t c = no_levels (clock_of c.args.ages.now) (g.R.Readings.history c.args.readings.now) c.args.levels c.args.depth c.args.place (string_bytes c.args.text.now) (omega (arith, c.if-levels-eq0.true))

pub returns-in_default : goal.returns-in_default
returns-in_default g t c =
    no_scope (clock_of c.args.ages.now) (g.R.Readings.history c.args.readings.now) c.args.levels c.args.depth c.args.place (string_bytes c.args.text.now) (sym c.info_at.ensures.info ∙ none_if c.info_at.result c.in_default.not-Some)

pub loop-index-init : goal.loop-index-init
loop-index-init g t c =
    let h = g.R.Readings.history c.args.readings.now in
    none_yet (clock_of c.args.ages.now) h (nested (clock_of c.args.ages.now) h (c.args.levels - 1)) (c.args.depth + 1) (tasks_of h c.in-Some.info.scope) (string_bytes c.args.text.now) (scope_line (clock_of c.args.ages.now) h c.args.depth c.in-Some.info) (string_bytes c.append_scope_line.new.text) c.in_ok-append_scope_line.ensures

pub loop-index-preserved : goal.loop-index-preserved
loop-index-preserved g t c =
    let h = g.R.Readings.history c.args.readings.now in
    task_more (clock_of c.args.ages.now) h (nested (clock_of c.args.ages.now) h (c.args.levels - 1)) (c.args.depth + 1) (tasks_of h c.in-Some.info.scope) c.loop-index.index c.in-Some-task_at.task (string_bytes c.args.text.now) (scope_line (clock_of c.args.ages.now) h c.args.depth c.in-Some.info)
    (string_bytes c.loop-index.text) (string_bytes c.append_task_line.new.text) (string_bytes c.append_scope.new.text)
    (sym c.task_at.ensures ∙ c.in-Some-task_at.is) c.loop-index.invariant c.in_ok-append_task_line.ensures (c.in_ok-append_scope.ensures ∙ ap (λ p. string_bytes c.append_task_line.new.text ++ nested (clock_of c.args.ages.now) h (c.args.levels - 1) (c.args.depth + 1 + 1) p) c.outermost.ensures)

pub returns : goal.returns
returns g t c =
    on_ok_weaker c.append_scope-2.result (λ within. scope_whole (clock_of c.args.ages.now) h c.args.levels c.args.depth c.args.place c.in-Some.info (take c.loop-index.index tasks) (string_bytes c.args.text.now) (string_bytes c.loop-index.text) (string_bytes c.append_scope-2.new.text)
    (omega (arith, c.if-levels-eq0.false)) (sym c.info_at.ensures.info ∙ c.in-Some.is) all c.loop-index.invariant
    (within ∙ ap (λ p. string_bytes c.loop-index.text ++ nested (clock_of c.args.ages.now) h (c.args.levels - 1) (c.args.depth + 1) p) c.inner.ensures)) c.append_scope-2.ensures
  where
    h : History
    h = g.R.Readings.history c.args.readings.now

    tasks : List ℕ
    tasks = tasks_of h c.in-Some.info.scope

    all : take c.loop-index.index tasks ≡ tasks
    all = elim c.loop-index-test.branch [
      | else-loop-index-test w ↦ all_below h c.in-Some.info.scope c.loop-index.index c.tasks-index-end.result c.tasks-index-end.ensures (omega (arith, w.loop-index-test))
      | then-loop-index-test+in_default-task_at w ↦ all_before tasks c.loop-index.index (sym w.task_at.ensures ∙ none_if w.task_at.result w.in_default-task_at.not-Some)
    ]

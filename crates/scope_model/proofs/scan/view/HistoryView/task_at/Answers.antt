-- The tasks of the scope are counted up to the place.
use Rattle.std.specs.Prelude.{◌+◌, ◌<◌, ◌≡◌, ◌≤◌}
use Rattle.scope_model.specs.{Some, filter, forked_count, is_task_of, length, range_with_len, tasks_of}
use Rattle.scope_model.proofs.Words.{◌∙◌, ap, arith, subst, sym, true}
use Rattle.scope_model.proofs.TaskPlaces.{counted_other, counted_passed, none_there, stands_there}
use Rattle.scope_model.proofs.scan.view.HistoryView.task_at.Goals.{else-is_task_of, then-is_task_of+else-passed-place}
use Rattle.scope_model.proofs.scan.view.HistoryView.task_at.Goals as goal

pub returns-then-passed-place : goal.returns-then-passed-place
unfolding tasks_of
returns-then-passed-place c =
    let h = c.args.self.now in
    let p = is_task_of h c.args.scope in
    let first = h.base.tasks + 1 in
    let n = c.loop-before.before in
    let number : c.task_after-task.result ≡ first + n = c.task_after-task.ensures in
    let so : p (first + n) ≡ true = ap p (sym number) ∙ (sym c.is_task_of.ensures ∙ c.if-is_task_of.true) in
    let count : length (filter p (range_with_len first n)) ≡ c.args.place = sym c.loop-before.invariant.0 ∙ c.if-passed-place.true in
    let within : n < forked_count h = subst (λ m. n < m) c.forked_count-before-end.ensures c.loop-before-test.true in
    ap Some number ∙ sym (stands_there p first n (forked_count h) c.args.place so count within)

pub loop-before-preserved : goal.loop-before-preserved
loop-before-preserved c =
    let h = c.args.self.now in
    let p = is_task_of h c.args.scope in
    let first = h.base.tasks + 1 in
    let n = c.loop-before.before in
    let number : c.task_after-task.result ≡ first + n = c.task_after-task.ensures in
    let test : c.is_task_of.result ≡ p (first + n) = c.is_task_of.ensures ∙ ap p number in
    elim c.if-is_task_of.branch [
      | then-is_task_of+else-passed-place w ↦
          let more = counted_passed p first n (sym test ∙ w.if-is_task_of.true) in
          let apart = w.if-passed-place.false in
          (omega (arith, w.passed-is, c.loop-before.invariant.0, more), omega (arith, w.passed-is, c.loop-before.invariant.1, apart))
      | else-is_task_of w ↦
          let same = counted_other p first n (sym test ∙ w.if-is_task_of.false) in
          (omega (arith, w.passed-is, c.loop-before.invariant.0, same), omega (arith, w.passed-is, c.loop-before.invariant.1))
    ]

pub returns : goal.returns
unfolding tasks_of
returns c =
    let h = c.args.self.now in
    let p = is_task_of h c.args.scope in
    let first = h.base.tasks + 1 in
    let all : forked_count h ≡ c.loop-before.before = omega (arith, c.forked_count-before-end.ensures, c.loop-before-test.false, c.loop-before.auto.before-end) in
    sym (none_there p first (forked_count h) c.args.place
    (subst (λ m. length (filter p (range_with_len first m)) ≤ c.args.place) (sym all) (omega (arith, c.loop-before.invariant.0, c.loop-before.invariant.1))))

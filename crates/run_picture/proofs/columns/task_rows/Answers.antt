-- Each number since the base has its row.
use Rattle.std.specs.Prelude.{◌++◌, ◌+◌, ◌∷◌, ◌≡◌}
use Rattle.run_picture.specs.{[], IsTaskRow, None, TaskRow, forking, is_some, length, slice_get}
use Rattle.run_picture.proofs.Lemmas.{◌∙◌, ap, arith, length-append, subst, sym}
use Rattle.run_picture.proofs.Existing.{forked_there, rows_more}
use Rattle.run_picture.proofs.columns.task_rows.Goals as goal

pub unreachable-requires : goal.unreachable-requires
unreachable-requires g c =
    let h = g.R.Readings.history c.args.readings.now in
    let i = c.loop-index.index in
    let there = forked_there h i (omega arith) in
    let number : h.base.tasks + 1 + i ≡ c.retired_tasks-before.result + 1 + i = omega arith in
    let none : forking h (h.base.tasks + 1 + i) ≡ None = ap (forking h) number ∙ (sym c.forking.ensures ∙ c.in_default.is) in
    let some = ap is_some none in
    absurd (cc (there, some))

pub loop-index-preserved : goal.loop-index-preserved
loop-index-preserved g c =
    let h = g.R.Readings.history c.args.readings.now in
    let rows = c.loop-index.rows.items in
    let row = c.task_row.result in
    let pushed : c.push.new.self.items ≡ rows ++ row ∷ [] = c.in_ok-push.ensures.items in
    let at : c.retired_tasks-before.result + 1 + c.loop-index.index ≡ h.base.tasks + 1 + length rows = omega (arith, c.loop-index.invariant.long) in
    let last : IsTaskRow h (h.base.tasks + 1 + length rows) row = subst (λ n. IsTaskRow h n row) at c.task_row.ensures in
    let all = rows_more (λ i (x : TaskRow). IsTaskRow h (h.base.tasks + 1 + i) x) rows row c.loop-index.invariant.each last in
    record {
      long = ap length pushed ∙ (length-append rows (row ∷ []) ∙ omega (arith, c.loop-index.invariant.long));
      each = λ i x there. all i x (ap (λ xs. slice_get xs i) (sym pushed) ∙ there);
    }

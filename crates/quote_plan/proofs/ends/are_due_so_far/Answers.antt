use Rattle.std.specs.Prelude.{◌≡◌}
use Rattle.quote_plan.specs.{TaskState, length, true}
use Rattle.quote_plan.proofs.Words.{◌∙◌, arith, below_more, eq-eqb, eqb-true, inl, inr, sym}
use Rattle.quote_plan.proofs.Dues.{state_at}
use Rattle.quote_plan.proofs.ends.are_due_so_far.Goals as goal

pub loop-index-preserved : goal.loop-index-preserved
loop-index-preserved c =
    let task = c.index-tasks-index.result in
    let here = state_at (λ (t : TaskState). t.state) c.args.tasks.now c.loop-index.index task c.loop-index-test.true c.index-tasks-index.is in
    below_more _ _ c.loop-index.invariant (rw here (c.is_due_so_far_at.ensures.0 c.if-not-is_due_so_far_at.false))

pub returns-then-not-is_due_so_far_at : goal.returns-then-not-is_due_so_far_at
returns-then-not-is_due_so_far_at c =
    let task = c.index-tasks-index.result in
    let here = state_at (λ (t : TaskState). t.state) c.args.tasks.now c.loop-index.index task c.loop-index-test.true c.index-tasks-index.is in (
      λ no. absurd cc,
      λ due.
          absurd (let yes : c.is_due_so_far_at.result ≡ true = c.is_due_so_far_at.ensures.1 (elim (due.1 c.loop-index.index c.loop-index-test.true) [ inl h ↦ inl (sym here ∙ h) | inr h ↦ inr (sym here ∙ h) ]) in cc),
    )

pub returns : goal.returns
returns c =
    let tasks = c.args.tasks.now in
    (λ yes. (eqb-true (length tasks) c.len.result yes ∙ c.len.ensures, λ k below. c.loop-index.invariant k (omega arith)), λ due. eq-eqb (length tasks) c.len.result (due.0 ∙ sym c.len.ensures))

use Rattle.quote_plan.specs.{Named, TaskState, dues_of, length, state_due, states_of}
use Rattle.quote_plan.proofs.Words.{◌∙◌, arith, below_more, length-map, sym}
use Rattle.quote_plan.proofs.Dues.{agree, differ, state_at}
use Rattle.quote_plan.proofs.ends.are_due.Goals as goal

pub loop-index-preserved : goal.loop-index-preserved
loop-index-preserved c =
    let task = c.index-tasks-index.result in
    let here = state_at (λ (t : TaskState). t.state) c.args.tasks.now c.loop-index.index task c.loop-index-test.true c.index-tasks-index.is in
    below_more _ _ c.loop-index.invariant (here ∙ sym (c.is_due_at.ensures.0 c.if-not-is_due_at.false))

pub returns-then-not-is_due_at : goal.returns-then-not-is_due_at
returns-then-not-is_due_at c =
    let task = c.index-tasks-index.result in
    let here = state_at (λ (t : TaskState). t.state) c.args.tasks.now c.loop-index.index task c.loop-index-test.true c.index-tasks-index.is in
    (λ no. absurd cc, λ due. absurd (differ (states_of c.args.tasks.now) (dues_of c.args.plan.now.offers) c.loop-index.index _ c.is_due_at.result here c.if-not-is_due_at.true c.is_due_at.ensures due))

pub returns : goal.returns
returns c =
    let tasks = c.args.tasks.now in
    let offers = c.args.plan.now.offers in
    agree (states_of tasks) (dues_of offers) (length tasks) c.len.result (length-map tasks (λ (t : TaskState). t.state)) (length-map offers (λ (e : Named). state_due e.1) ∙ sym c.len.ensures) (λ k below. c.loop-index.invariant k (omega arith))

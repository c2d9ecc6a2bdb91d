-- An accepted fork has a number for its task.
use Rattle.std.specs.Prelude.{◌≡◌}
use Rattle.scope_model.specs.{Fork, Ok, check_of}
use Rattle.scope_model.proofs.Words.{◌∙◌, arith, fork_number, sym}
use Rattle.scope_model.proofs.plain.evaluator.Plain.fork.Goals as goal

pub overflow_add-task : goal.overflow_add-task
overflow_add-task c =
    let ok : check_of c.limits.result c.view-view.result (Fork c.args.actor c.args.scope c.args.label) ≡ Ok tt = sym (c.fork_row.ensures c.args.label) ∙ c.in_ok-fork_row.was in
    omega (arith, (fork_number c.limits.result c.view-view.result c.args.actor c.args.scope c.args.label ok).1, c.tasks-task.ensures)

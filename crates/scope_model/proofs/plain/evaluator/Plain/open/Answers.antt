-- An accepted open has a number for its scope.
use Rattle.std.specs.Prelude.{◌≡◌}
use Rattle.scope_model.specs.{Ok, Open, check_of}
use Rattle.scope_model.proofs.Words.{◌∙◌, arith, open_number, sym}
use Rattle.scope_model.proofs.plain.evaluator.Plain.open.Goals as goal

pub overflow_add-scope : goal.overflow_add-scope
overflow_add-scope c =
    let ok : check_of c.limits.result c.view-view.result (Open c.args.actor c.args.policy c.args.options) ≡ Ok tt = sym (c.open_row.ensures c.args.policy c.args.options) ∙ c.in_ok-open_row.was in
    omega (arith, (open_number c.limits.result c.view-view.result c.args.actor c.args.policy c.args.options ok).1, c.scopes-scope.ensures)

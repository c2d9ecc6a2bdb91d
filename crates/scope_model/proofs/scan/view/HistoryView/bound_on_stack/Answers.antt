use Rattle.std.specs.Prelude.{◌<◌}
use Rattle.scope_model.specs.{length, option_or, stack}
use Rattle.scope_model.proofs.Words.{◌∙◌, ap, arith, bound_at, bound_to_none, sym}
use Rattle.scope_model.proofs.scan.view.HistoryView.bound_on_stack.Goals as goal

pub loop-index-init : goal.loop-index-init
loop-index-init c = sym (bound_to_none c.args.key.now)

pub loop-index-preserved : goal.loop-index-preserved
loop-index-preserved c =
    let within : c.loop-index.index < length (stack c.args.self.now c.args.actor) = omega (arith, c.stack_len-index-end.ensures) in
    c.or-found.ensures
    ∙ (ap (λ o. option_or o c.loop-index.found) c.value_under.ensures
    ∙ bound_at c.args.key.now (stack c.args.self.now c.args.actor) c.loop-index.index c.stack_pair.result c.loop-index.found c.stack_pair.ensures within c.loop-index.invariant)

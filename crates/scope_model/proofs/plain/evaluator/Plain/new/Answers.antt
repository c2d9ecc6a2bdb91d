use Rattle.scope_model.specs.{the_start}
use Rattle.scope_model.proofs.Words.{arith}
use Rattle.scope_model.proofs.KeptEvents.{events_start}
use Rattle.scope_model.proofs.plain.evaluator.Plain.new.Goals as goal

pub invariant_of-result : goal.invariant_of-result
invariant_of-result c = events_start c.new.result.realm c.args.limits the_start _ _ c.new.ensures c.new-2.ensures.items (omega arith)

use Rattle.std.proofs.Common.{refl, arith}
use Rattle.scope_rules.specs.declared.types.events.Event.TheVariants.{Finish}
use Rattle.pool_tests.proofs.Plain.{plain_next}
use Rattle.pool_tests.proofs.ledgers.Ledger.finish.Goals as goal

pub invariant_of-self : goal.invariant_of-self
invariant_of-self g c = record { plain = plain_next _ _ _ _ _ _ _ (Finish c.args.ticket.now.task c.args.end) c.args.self.now.plain c.finish.ensures.keeper refl refl (omega arith) }

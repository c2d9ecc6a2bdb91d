use Rattle.std.proofs.Common.{refl, ap, arith}
use Rattle.scope_rules.specs.declared.types.events.Event.TheVariants.{Fork}
use Rattle.share_ledger.specs.Steps.{history_of}
use Rattle.share_ledger.specs.Values.{OwnerValue}
use Rattle.pool_tests.proofs.Plain.{plain_next, uncancelled}
use Rattle.pool_tests.proofs.ledgers.Ledger.fork.Goals as goal

pub fork-ticket-requires-clause-live : goal.fork-ticket-requires-clause-live
fork-ticket-requires-clause-live g c = uncancelled (history_of c.args.self.now.keeper.steps) 1 c.args.self.now.plain.unopened

pub invariant_of-self : goal.invariant_of-self
invariant_of-self g c = record { plain = plain_next _ _ _ _ _ _ _ (Fork c.args.self.now.main.actor 1 c.args.label.now) c.args.self.now.plain c.fork-ticket.ensures.keeper (ap (λ (o : OwnerValue). o.table) c.fork-ticket.ensures.share) refl (omega (arith, c.in_ok-task.ensures)) }

use Rattle.std.proofs.Common.{refl, ap, ◌∙◌, arith}
use Rattle.scope_rules.specs.declared.types.events.Event.TheVariants.{Start}
use Rattle.share_ledger.specs.declared.steps.RealmStep.TheVariants.{Happened}
use Rattle.share_ledger.specs.Tickets.{end_in}
use Rattle.share_ledger.specs.Values.{TicketValue}
use Rattle.pool_tests.proofs.Plain.{plain_next, unended_next}
use Rattle.pool_tests.proofs.ledgers.Ledger.start.Goals as goal

pub invariant_of-self : goal.invariant_of-self
invariant_of-self g c = record { plain = plain_next _ _ _ _ _ _ _ (Start c.args.ticket.now.task) c.args.self.now.plain c.start.ensures.keeper refl refl (omega arith) }

pub returns-clause-ticket : goal.returns-clause-ticket
unfolding end_in
returns-clause-ticket g c =
    let now = c.start.ensures.ticket in
    let unended = unended_next c.args.ticket.now c.args.self.now.keeper (Happened (Start c.args.ticket.now.task)) c.start.ensures.agreed c.requires.unended refl in
    record {
      named = ap (λ (t : TicketValue). t.table) now ∙ c.requires.named;
      task = ap (λ (t : TicketValue). t.task) now;
      scope = ap (λ (t : TicketValue). t.scope) now;
      label = ap (λ (t : TicketValue). t.label) now;
      unended = rw (now, c.start.ensures.keeper) unended;
    }

-- The list is empty before the fork.
use Rattle.part_tests.proofs.Fresh.{first_is_next, first_is_live}
use Rattle.part_tests.proofs.parts.shares.one_rejected.Goals as goal

pub fork-ticket-requires-clause-number : goal.fork-ticket-requires-clause-number
fork-ticket-requires-clause-number c = first_is_next _ c.requires.fresh

pub fork-ticket-requires-clause-live : goal.fork-ticket-requires-clause-live
fork-ticket-requires-clause-live c = first_is_live _ c.requires.fresh

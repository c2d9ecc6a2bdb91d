-- More room leaves the codes' entries.
use Rattle.scope_journal.proofs.Coding.{codes_roomier}
use Rattle.scope_journal.proofs.event_list.EventList.reserve.Goals as goal

pub invariant_of-self-2 : goal.invariant_of-self-2
invariant_of-self-2 c = rw c.reserve.ensures.items (codes_roomier c.self.inside.entries _ _ c.reserve-2.ensures.kept c.self.invariant)

use Rattle.scope_journal.proofs.LogPlaces.{entries_placed}
use Rattle.scope_journal.proofs.laws.entries_are_at_places.Goals as goal

pub returns : goal.returns
returns c = entries_placed

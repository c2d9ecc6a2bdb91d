use Rattle.scope_journal.proofs.LogPlaces.{one_scope}
use Rattle.scope_journal.proofs.laws.events_are_of_one_scope.Goals as goal

pub returns : goal.returns
returns c = one_scope

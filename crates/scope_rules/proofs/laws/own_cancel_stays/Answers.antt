use Rattle.scope_rules.proofs.Growing.{own_grows, own_stays}
use Rattle.scope_rules.proofs.laws.own_cancel_stays.Goals as goal

pub returns-clause-stays : goal.returns-clause-stays
returns-clause-stays c = own_stays

pub returns-clause-grows : goal.returns-clause-grows
returns-clause-grows c = own_grows

use Rattle.scope_rules.proofs.{Heights.stack_above, LastPairs.held_by_any, LastPairs.held_by_later, LastPairs.last_bound_once, LastPairs.last_was_bound}
use Rattle.scope_rules.proofs.laws.bindings.unbinds_wait_for_later_scopes.Goals as goal

pub returns-clause-bound : goal.returns-clause-bound
returns-clause-bound c = last_was_bound

pub returns-clause-once : goal.returns-clause-once
returns-clause-once c = last_bound_once

pub returns-clause-later : goal.returns-clause-later
returns-clause-later c = held_by_later

pub returns-clause-any : goal.returns-clause-any
returns-clause-any c = held_by_any

pub returns-clause-above : goal.returns-clause-above
returns-clause-above c = stack_above

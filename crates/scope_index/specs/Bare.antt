-- What a join answered, without the lists.
use Rattle.scope_index.specs.Words.{BareOutcome, Outcome}
use Rattle.scope_rules.specs.declared.types.outcomes.Outcome.TheVariants as outcome
use Rattle.scope_index.specs.declared.bare.BareOutcome.TheVariants as bare

abbrev pub bare_of : Outcome → BareOutcome
bare_of (outcome.All values) = bare.All
bare_of (outcome.Any task value) = bare.Any task value
bare_of outcome.Empty = bare.Empty
bare_of outcome.Done = bare.Done
bare_of (outcome.Failed task fault) = bare.Failed task fault
bare_of (outcome.List states) = bare.List
bare_of outcome.Timeout = bare.Timeout
bare_of (outcome.Partial states) = bare.Partial
bare_of (outcome.Cancelled scope) = bare.Cancelled scope

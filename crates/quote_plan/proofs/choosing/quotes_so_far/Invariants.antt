-- The prices of the offers before the index whose tasks have ended.
use Rattle.std.specs.Prelude.{◌≡◌}
use Rattle.quote_plan.specs.{available, take}
use Rattle.quote_plan.proofs.choosing.quotes_so_far.Given as goal

abbrev pub invariant-loop-index : goal.invariant-loop-index
invariant-loop-index l = l.quotes.items ≡ available (take l.index l.plan.offers) (take l.index l.tasks)

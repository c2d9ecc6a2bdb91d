-- The prices of the offers before the index.
use Rattle.std.specs.Prelude.{◌≡◌}
use Rattle.quote_plan.specs.{quotes_in, take}
use Rattle.quote_plan.proofs.choosing.quotes.Given as goal

abbrev pub invariant-loop-index : goal.invariant-loop-index
invariant-loop-index l = l.quotes.items ≡ quotes_in (take l.index l.plan.offers)

-- The best of the offers before the index.
use Rattle.quote_plan.specs.{IsBestOf, quotes_in, take}
use Rattle.quote_plan.proofs.choosing.best_quote.Given as goal

abbrev pub invariant-loop-index : goal.invariant-loop-index
invariant-loop-index l = IsBestOf (quotes_in (take l.index l.plan.offers)) l.best

use Rattle.quote_plan.proofs.Words.{refl}
use Rattle.quote_plan.proofs.Passing.{nothing_taken}
use Rattle.quote_plan.proofs.readers.PlanReader.new.Goals as goal

pub returns : goal.returns
returns c = nothing_taken _ c.new.ensures.modes c.new.ensures.offers refl c.new-2.ensures.items

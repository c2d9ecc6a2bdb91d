-- The map keeps the order in which names came.
use Rattle.quote_plan.proofs.Words.{◌∙◌}
use Rattle.quote_plan.proofs.Names.{fields_tell, new_goes_last}
use Rattle.quote_plan.proofs.reading.put.Goals as goal

pub returns : goal.returns
returns c =
    c.in_ok-insert.ensures.entries ∙ new_goes_last c.args.name c.args.offer _ (fields_tell c.args.name) c.args.offers.now.entries c.requires

-- The map tells names apart by all that they are made of.
use Rattle.quote_plan.proofs.Words.{◌∙◌}
use Rattle.quote_plan.proofs.Names.{fields_tell, found_is_named}
use Rattle.quote_plan.proofs.reading.is_named.Goals as goal

pub returns : goal.returns
returns c =
    c.contains_key.ensures ∙ found_is_named c.args.name.now _ (fields_tell c.args.name.now) c.args.offers.now.entries

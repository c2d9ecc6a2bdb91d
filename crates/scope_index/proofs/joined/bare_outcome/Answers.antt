-- What the parts say is what the join answered, without the lists.
use Rattle.scope_index.specs.{bare_of}
use Rattle.scope_index.proofs.Words.{◌∙◌, Some, ap, option_map, sym}
use Rattle.scope_index.proofs.joined.bare_outcome.Goals as goal

pub returns : goal.returns
returns c = λ L h legal rows cancels forks. ap (option_map bare_of) (c.parts_of-at.ensures L h legal rows cancels forks) ∙ ap Some (sym c.bare_answer_of.ensures)

-- The outermost scope is the first after none.
use Rattle.scope_rows.proofs.Words.{◌∙◌}
use Rattle.scope_rows.proofs.FirstUnclosed.{outermost_is}
use Rattle.scope_rows.proofs.nests.outermost.Goals as goal

pub returns : goal.returns
returns c = λ L h legal are. c.next_unclosed.ensures L h legal are ∙ outermost_is h c.args.actor

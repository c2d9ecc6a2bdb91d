use Rattle.quote_gateway.proofs.Going.{goes_nowhere}
use Rattle.quote_gateway.proofs.until.UntimedUntilUnit.give_up.Goals as goal

pub returns-clause-keeps : goal.returns-clause-keeps
returns-clause-keeps g c = goes_nowhere _ _ _ c.requires.here.legal

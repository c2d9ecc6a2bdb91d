use Rattle.scopectl.specs.{Write}
use Rattle.scopectl.proofs.act.quote.Goals as goal

pub returns-in-Ok-clause-named : goal.returns-in-Ok-clause-named
returns-in-Ok-clause-named g c =
    λ e. record { fault = Write; came = c.tell.ensures.failed e; line = c.tell.ensures.named e }

use Rattle.quote_gateway.proofs.Words.{length}
use Rattle.quote_gateway.proofs.offer_jobs.+late_of.Given as goal

abbrev pub decreases-late_of : goal.decreases-late_of
decreases-late_of g l = length l.late.now

-- The reasons fit, and so do the replies.
use Rattle.script_jobs.proofs.RepliesFit.{replies_fit}
use Rattle.script_jobs.proofs.laws.replies_fit.Goals as goal

pub returns : goal.returns
returns c = replies_fit c.reasons_fit.ensures.events c.reasons_fit.ensures.retirements c.reasons_fit.ensures.queries

use Rattle.refusal_reasons.specs.{length}
use Rattle.refusal_reasons.proofs.faults.+misfit.Given as goal

abbrev pub decreases-misfit : goal.decreases-misfit
decreases-misfit l = length l.slots.now

-- The rest gets smaller.
use Rattle.run_picture.proofs.digits.append_number.Given as goal

abbrev pub decreases-loop-rest : goal.decreases-loop-rest
decreases-loop-rest l = l.rest

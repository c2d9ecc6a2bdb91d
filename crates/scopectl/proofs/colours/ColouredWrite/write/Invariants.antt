use Rattle.scopectl.specs.{length}
use Rattle.scopectl.proofs.colours.ColouredWrite.write.Given as goal

abbrev pub decreases-loop-line : goal.decreases-loop-line
decreases-loop-line g l = length l.rest

use Rattle.scopectl.specs.{length}
use Rattle.scopectl.proofs.quoting.+has_late.Given as goal

abbrev pub decreases-has_late : goal.decreases-has_late
decreases-has_late l = length l.after.now

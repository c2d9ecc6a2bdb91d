-- No try so far was refused.
use Rattle.balkreyn_c.proofs.Repeats.{Gone}
use Rattle.balkreyn_c.proofs.batches.repeat.Given as goal

abbrev pub invariant-loop-place : goal.invariant-loop-place
invariant-loop-place l = Gone l.initial.realm l.event l.initial.answers l.answers l.place l.realm

-- These slots are of the jobs so far.
use Rattle.std.proofs.Common.{◌+◌, ◌≡◌, length}
use Rattle.balkreyn.specs.{ForkedInto}
use Rattle.balkreyn.proofs.act.valued.fork_all.Given as goal

abbrev pub invariant-loop-job : goal.invariant-loop-job
invariant-loop-job g l =
    ForkedInto g.X.Scopes.token l.scope l.name l.initial.cx l.slots.items l.cx
    × (length l.slots.items + length l.job-iterator.rest.items ≡ length l.fn.jobs.items)

-- What was walked, and what is ahead, is the trail.
use Rattle.std.proofs.Common.{◌++◌, ◌≡◌, reverse}
use Rattle.scope_journal.specs.{trail_in}
use Rattle.scope_journal.proofs.TrailWalks.{ahead, bound}
use Rattle.scope_journal.proofs.trails.Trails.places.Given as goal

abbrev pub invariant-loop-next : goal.invariant-loop-next
invariant-loop-next l = ahead l.self.links l.next ++ reverse l.places.items ≡ trail_in l.self l.scope

abbrev pub decreases-loop-next : goal.decreases-loop-next
decreases-loop-next l = bound l.next

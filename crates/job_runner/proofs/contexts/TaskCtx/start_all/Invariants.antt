-- The first jobs were started, and each ticket that is left may be given to its own job.
use Rattle.std.proofs.Common.{◌+◌, ◌≡◌, ◌≤◌, Option, length, reverse, vec_capacity, vec_len}
use Rattle.job_runner.specs.{All, AreReady, IsMarkOf, IsStarting, Seen}
use Rattle.job_runner.proofs.contexts.TaskCtx.start_all.Given as goal

abbrev pub invariant-loop-next : goal.invariant-loop-next
invariant-loop-next g l =
    IsStarting l.fn.self.token l.self.token l.fn.self.team l.self.team l.fn.jobs.items (reverse l.jobs.items) l.fn.forked.items (reverse l.forked.items) l.answers.items
    × AreReady g.N.RealmName.table l.scope (reverse l.jobs.items) (reverse l.forked.items)
    × All (λ (room : Unit {0} × Option Seen). IsMarkOf l.scope l.fn.self.opened.items room.1) l.rooms.items
    × (length l.forked.items ≤ length l.rooms.items)
    × (vec_len l.answers + length l.forked.items ≤ vec_capacity l.answers)
    × (l.self ≡ record l.fn.self { token = l.self.token; spawner = l.self.spawner; team = l.self.team })

abbrev pub decreases-loop-next : goal.decreases-loop-next
decreases-loop-next g l = vec_len l.forked

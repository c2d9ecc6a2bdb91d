-- There is room for so many threads as were counted, and nothing else has changed.
use Rattle.std.proofs.Common.{◌≡◌, ◌≤◌, Option, vec_capacity, vec_len}
use Rattle.job_runner.specs.{All, IsMarkOf, IsSameTeam, Seen}
use Rattle.job_runner.proofs.contexts.TaskCtx.room_for_threads.Given as goal

abbrev pub invariant-loop : goal.invariant-loop
invariant-loop g l =
    (l.self ≡ record l.fn.self { team = l.self.team })
    × IsSameTeam l.fn.self.team l.self.team
    × (vec_len l.rooms ≡ l.counter)
    × (l.count ≤ vec_capacity l.rooms)
    × All (λ (room : Unit {0} × Option Seen). IsMarkOf l.scope l.fn.self.opened.items room.1) l.rooms.items

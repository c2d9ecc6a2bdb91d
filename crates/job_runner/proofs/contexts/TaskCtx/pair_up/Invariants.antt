-- The works so far are of the first jobs, and each ticket that is left may be given to its own job.
use Rattle.std.proofs.Common.{◌+◌, ◌≡◌, ◌≤◌, Option, length, reverse, vec_capacity, vec_len}
use Rattle.job_runner.specs.{All, ArePaired, AreReady, IsMarkOf, JobWork, Seen, deque_capacity, deque_len, started}
use Rattle.job_runner.proofs.contexts.TaskCtx.pair_up.Given as goal

abbrev pub invariant-loop-ticket : goal.invariant-loop-ticket
invariant-loop-ticket g l = record {
  paired : ArePaired g.N.RealmName.table l.scope l.self.opened.items (λ (w : JobWork _ _ _). w.job) (λ (w : JobWork _ _ _). w.around) l.works.items (reverse l.initial.jobs.items) (reverse l.jobs.items) (reverse l.initial.forked.items) (reverse l.forked.items);
  ready : AreReady g.N.RealmName.table l.scope (reverse l.jobs.items) (reverse l.forked.items);
  marked : All (λ (room : Unit {0} × Option Seen). IsMarkOf l.scope l.self.opened.items room.1) l.rooms.items;
  answers : l.answers.items ≡ started l.works.items;
  rooms : length l.forked.items ≤ length l.rooms.items;
  count : deque_len l.works + vec_len l.forked ≡ vec_len l.initial.forked;
  answered : vec_len l.answers ≡ deque_len l.works;
  room : (vec_capacity l.answers ≡ vec_capacity l.initial.answers) × (deque_capacity l.works ≡ deque_capacity l.initial.works);
  back : (vec_len l.jobs + deque_len l.works ≤ vec_capacity l.jobs) × (vec_len l.rooms + deque_len l.works ≤ vec_capacity l.rooms) × (vec_len l.forked + deque_len l.works ≤ vec_capacity l.forked);
}

abbrev pub decreases-loop-ticket : goal.decreases-loop-ticket
decreases-loop-ticket g l = vec_len l.forked

-- Each turn puts one work back, which is the last of those that are left.
use Rattle.std.proofs.Common.{ℕ, ◌++◌, ◌+◌, ◌≡◌, ◌≤◌, List, Option, map, reverse, vec_capacity, vec_len}
use Rattle.realm_core.specs.declared.forking.Forked.TheVariants.{Thread}
use Rattle.job_runner.specs.{All, IsMarkOf, JobWork, OpenScope, Seen, TicketValue, deque_len}
use Rattle.job_runner.proofs.together.take_apart.Given as goal

abbrev pub invariant-loop-next : goal.invariant-loop-next
invariant-loop-next g l = record {
  jobs : map (λ (w : TicketValue × JobWork _ _ _). w.1.job) l.works.items ++ reverse l.jobs.items ≡ map (λ (w : TicketValue × JobWork _ _ _). w.1.job) l.initial.works.items ++ reverse l.initial.jobs.items;
  forked : map (λ (w : TicketValue × JobWork _ _ _). Thread w.0) l.works.items ++ reverse l.forked.items ≡ map (λ (w : TicketValue × JobWork _ _ _). Thread w.0) l.initial.works.items ++ reverse l.initial.forked.items;
  counts : (vec_len l.rooms + deque_len l.works ≡ vec_len l.initial.rooms + deque_len l.initial.works) × (vec_len l.forked + deque_len l.works ≡ vec_len l.initial.forked + deque_len l.initial.works);
  room : (vec_len l.jobs + deque_len l.works ≤ vec_capacity l.jobs) × (vec_len l.rooms + deque_len l.works ≤ vec_capacity l.rooms) × (vec_len l.forked + deque_len l.works ≤ vec_capacity l.forked);
  marked : (s : ℕ) (opened : List OpenScope) → All (λ (w : TicketValue × JobWork _ _ _). IsMarkOf s opened w.1.around) l.initial.works.items → All (λ (room : Unit {0} × Option Seen). IsMarkOf s opened room.1) l.initial.rooms.items → All (λ (w : TicketValue × JobWork _ _ _). IsMarkOf s opened w.1.around) l.works.items × All (λ (room : Unit {0} × Option Seen). IsMarkOf s opened room.1) l.rooms.items;
}

abbrev pub decreases-loop-next : goal.decreases-loop-next
decreases-loop-next g l = deque_len l.works

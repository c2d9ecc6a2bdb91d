use Rattle.std.proofs.Common.{ℕ, ◌++◌, ◌∷◌, List, Option, Some, arith, map, reverse}
use Rattle.realm_core.specs.declared.forking.Forked.TheVariants.{Thread}
use Rattle.job_runner.specs.{IsMarkOf, JobWork, Seen, TicketValue}
use Rattle.job_runner.proofs.Words.{All-pop, All-push, All-same}
use Rattle.job_runner.proofs.{Batched.reverse_popped, Paired.item_back}
use Rattle.job_runner.proofs.together.take_apart.Goals as goal

pub loop-next-preserved : goal.loop-next-preserved
loop-next-preserved g c =
    let so_far = c.loop-next.invariant in
    let next = c.in-Some.next in
    let works = c.loop-next.works.items in
    let less = c.pop_back.new.self.items in
    let jobs = reverse_popped c.push_reserved.new.self.items c.loop-next.jobs.items next.1.job c.push_reserved.ensures.items in
    let rooms = c.push_reserved-in-Some.new.self.items in
    let forked = reverse_popped c.push_reserved-in-Some-2.new.self.items c.loop-next.forked.items (Thread next.0) c.push_reserved-in-Some-2.ensures.items in
    record {
      jobs = item_back (λ (w : TicketValue × JobWork _ _ _). w.1.job) (map (λ (w : TicketValue × JobWork _ _ _). w.1.job) c.args.works.items ++ reverse c.args.jobs.now.items) (reverse c.loop-next.jobs.items) (reverse c.push_reserved.new.self.items) works less next so_far.jobs c.in-Some.ensures.items jobs;
      forked = item_back (λ (w : TicketValue × JobWork _ _ _). Thread w.0) (map (λ (w : TicketValue × JobWork _ _ _). Thread w.0) c.args.works.items ++ reverse c.args.forked.now.items) (reverse c.loop-next.forked.items) (reverse c.push_reserved-in-Some-2.new.self.items) works less next so_far.forked c.in-Some.ensures.items forked;
      counts = (
        omega (arith, so_far.counts.0, c.in-Some.ensures.cases, c.push_reserved-in-Some.ensures.len),
        omega (arith, so_far.counts.1, c.in-Some.ensures.cases, c.push_reserved-in-Some-2.ensures.len),
      );
      room = (
        omega (arith, so_far.room.0, c.in-Some.ensures.cases, c.push_reserved.ensures.len, c.push_reserved.ensures.capacity),
        omega (arith, so_far.room.1, c.in-Some.ensures.cases, c.push_reserved-in-Some.ensures.len, c.push_reserved-in-Some.ensures.capacity),
        omega (arith, so_far.room.2, c.in-Some.ensures.cases, c.push_reserved-in-Some-2.ensures.len, c.push_reserved-in-Some-2.ensures.capacity),
      );
      marked = λ s opened ofs olds.
          let both = so_far.marked s opened ofs olds in
          let popped = All-pop (λ (w : TicketValue × JobWork _ _ _). IsMarkOf s opened w.1.around) works less (Some next) c.in-Some.ensures.items both.0 in
          let P : Unit {0} × Option Seen → Type 0 = λ room. IsMarkOf s opened room.1 in (
            popped.0,
            All-same P rooms _ c.push_reserved-in-Some.ensures.items (All-push P c.loop-next.rooms.items (next.1.realm, next.1.around) both.1 popped.1),
          );
    }

pub returns-clause-marked : goal.returns-clause-marked
returns-clause-marked g c = λ s opened ofs olds. (c.loop-next.invariant.marked s opened ofs olds).1

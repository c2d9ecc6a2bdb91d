use Rattle.std.proofs.Common.{◌++◌, ◌∷◌, Option, Some, arith, reverse, rules}
use Rattle.realm_core.specs.declared.forking.Forked.TheVariants.{Thread}
use Rattle.job_runner.specs.{IsMarkOf, JobWork, Seen}
use Rattle.job_runner.proofs.Words.{All-pop}
use Rattle.job_runner.proofs.{Batched.ready_first, Batched.ready_rest, Batched.reverse_popped, Paired.answers_more, Paired.paired_more}
use Rattle.job_runner.proofs.contexts.TaskCtx.pair_up.Goals as goal

pub loop-ticket-preserved : goal.loop-ticket-preserved
loop-ticket-preserved g c =
    let so_far = c.loop-ticket.invariant in
    let name = g.N.RealmName.table in
    let s = c.args.scope in
    let P : Unit {0} × Option Seen → Type 0 = λ room. IsMarkOf s c.args.self.now.opened.items room.1 in
    let ticket = c.in-Some.ticket in
    let job = c.in-Some-pop.job in
    let room = c.in-Some-pop-2.room in
    let jobs = reverse_popped c.loop-ticket.jobs.items c.pop.new.self.items job c.in-Some-pop.ensures.items in
    let forked = reverse_popped c.loop-ticket.forked.items c.next_thread.new.forked.items (Thread ticket) c.in-Some.ensures.taken in
    let one = ready_first name s (reverse c.loop-ticket.jobs.items) (reverse c.pop.new.self.items) (reverse c.loop-ticket.forked.items) (reverse c.next_thread.new.forked.items) job (Thread ticket) so_far.ready jobs forked in
    let marks = All-pop P c.loop-ticket.rooms.items c.pop-in-Some.new.self.items (Some room) c.in-Some-pop-2.ensures.items so_far.marked in
    let long_forked = c.loop-ticket.forked.ok.0 in
    let long_others = c.next_thread.new.forked.ok.0 in
    let long_rooms = c.loop-ticket.rooms.ok.0 in
    let long_less = c.pop-in-Some.new.self.ok.0 in
    record {
      paired = paired_more name s c.args.self.now.opened.items (λ (w : JobWork _ _ _). w.job) (λ (w : JobWork _ _ _). w.around) c.loop-ticket.works.items c.push_back_reserved.new.self.items (reverse c.args.jobs.now.items) (reverse c.loop-ticket.jobs.items) (reverse c.pop.new.self.items) (reverse c.args.forked.now.items) (reverse c.loop-ticket.forked.items) (reverse c.next_thread.new.forked.items) ticket _ c.push_back_reserved.ensures.items so_far.paired jobs forked one marks.1;
      ready = ready_rest name s (reverse c.loop-ticket.jobs.items) (reverse c.pop.new.self.items) (reverse c.loop-ticket.forked.items) (reverse c.next_thread.new.forked.items) job (Thread ticket) so_far.ready jobs forked;
      marked = marks.0;
      answers = answers_more c.loop-ticket.works.items c.push_back_reserved.new.self.items ticket _ c.loop-ticket.answers.items c.push_reserved.new.self.items c.task.result c.push_back_reserved.ensures.items so_far.answers c.push_reserved.ensures.items c.task.ensures;
      rooms = omega (arith, so_far.rooms, c.in-Some.ensures.len, c.in-Some-pop-2.ensures.len);
      count = omega (arith, so_far.count, c.in-Some.ensures.len, c.push_back_reserved.ensures.len);
      answered = omega (arith, so_far.answered, c.push_reserved.ensures.len, c.push_back_reserved.ensures.len);
      room = (search rules, search rules);
      back = (
        omega (arith, so_far.back.0, c.in-Some-pop.ensures.len, c.in-Some-pop.ensures.capacity, c.push_back_reserved.ensures.len),
        omega (arith, so_far.back.1, c.in-Some-pop-2.ensures.len, c.in-Some-pop-2.ensures.capacity, c.push_back_reserved.ensures.len),
        omega (arith, so_far.back.2, c.in-Some.ensures.len, c.next_thread.ensures.capacity, c.push_back_reserved.ensures.len),
      );
    }

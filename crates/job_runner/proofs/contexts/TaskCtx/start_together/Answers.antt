use Rattle.std.proofs.Common.{◌≡◌, Option, ap, arith, length, map, reverse, subst}
use Rattle.job_runner.specs.{All, IsMarkOf, JobWork, Seen, TicketValue}
use Rattle.job_runner.proofs.Words.{length-map}
use Rattle.job_runner.proofs.Paired.{All-behind, scopes_taken, started_length, starting_first, taken_fits}
use Rattle.job_runner.proofs.contexts.TaskCtx.start_together.Goals as goal

pub add_all-requires-clause-room : goal.add_all-requires-clause-room
add_all-requires-clause-room g c =
    let handles = c.spawn_all.new.handles in
    let fits = taken_fits g.S.Spawner.first_of handles.items c.pair_up.new.works.items c.spawn_all.ensures.taken c.spawn_all.new.works.items c.spawn_all.ensures.are c.spawn_all.ensures.given in
    let long = handles.ok.0 in (
      omega (arith, fits, c.pair_up.ensures.counts.0, c.len.ensures, c.in-Some.ensures.kept.0),
      omega (arith, fits, c.pair_up.ensures.counts.0, c.len.ensures, c.in-Some.ensures.kept.1),
    )

pub add_all-requires-clause-of : goal.add_all-requires-clause-of
add_all-requires-clause-of g c =
    scopes_taken g.S.Spawner.first_of c.args.scope c.spawn_all.new.handles.items c.pair_up.new.works.items c.spawn_all.ensures.taken c.spawn_all.new.works.items c.spawn_all.ensures.are c.spawn_all.ensures.given c.pair_up.ensures.paired.scopes

pub returns-clause-starting : goal.returns-clause-starting
returns-clause-starting g c =
    let handles = c.spawn_all.new.handles in
    let long = handles.ok.0 in
    let count : c.len-2.result ≡ length (map g.S.Spawner.first_of handles.items) = omega (arith, c.len-2.ensures, length-map handles.items g.S.Spawner.first_of) in
    starting_first c.args.self.now.token c.room_to_start.new.self.token c.args.self.now.team c.room_to_start.new.self.team c.add_all.new.self (λ (w : JobWork _ _ _). w.job) c.pair_up.new.works.items c.spawn_all.ensures.taken c.spawn_all.new.works.items (reverse c.args.jobs.now.items) (reverse c.pair_up.new.jobs.items) (reverse c.take_apart.new.jobs.items) (reverse c.args.forked.now.items) (reverse c.pair_up.new.forked.items) (reverse c.take_apart.new.forked.items) (map g.S.Spawner.first_of handles.items) c.pair_up.new.answers.items c.truncate.new.self.items c.len-2.result (ap (λ x. x.token) c.room_to_start.ensures.rest) c.room_to_start.ensures.team c.add_all.ensures c.spawn_all.ensures.are c.spawn_all.ensures.given c.pair_up.ensures.paired.jobs_are c.take_apart.ensures.jobs c.pair_up.ensures.paired.forked_are c.take_apart.ensures.forked c.pair_up.ensures.answers c.truncate.ensures.items count

pub returns-clause-marked : goal.returns-clause-marked
returns-clause-marked g c =
    let s = c.args.scope in
    let here = c.room_to_start.new.self.opened.items in
    let opened : here ≡ c.args.self.now.opened.items = ap (λ x. x.opened.items) c.room_to_start.ensures.rest in
    let works = All-behind (λ (w : TicketValue × JobWork _ _ _). IsMarkOf s here w.1.around) c.pair_up.new.works.items c.spawn_all.ensures.taken c.spawn_all.new.works.items c.spawn_all.ensures.are c.pair_up.ensures.paired.marked in
    subst (λ os. All (λ (room : Unit {0} × Option Seen). IsMarkOf s os room.1) c.take_apart.new.rooms.items) opened (c.take_apart.ensures.marked s here works c.pair_up.ensures.marked)

pub returns-clause-room : goal.returns-clause-room
returns-clause-room g c =
    let handles = c.spawn_all.new.handles in
    let fits = taken_fits g.S.Spawner.first_of handles.items c.pair_up.new.works.items c.spawn_all.ensures.taken c.spawn_all.new.works.items c.spawn_all.ensures.are c.spawn_all.ensures.given in
    let answered = started_length c.pair_up.new.works.items c.pair_up.new.answers.items c.pair_up.ensures.answers in
    let long_handles = handles.ok.0 in
    let long_answers = c.pair_up.new.answers.ok.0 in
    let long_old = c.args.forked.now.ok.0 in
    let long_new = c.take_apart.new.forked.ok.0 in
    omega (arith, fits, answered, c.len-2.ensures, c.truncate.ensures.len, c.truncate.ensures.capacity, c.pair_up.ensures.counts.0, c.pair_up.ensures.counts.1, c.take_apart.ensures.counts, c.requires.room)

use Rattle.job_runner.specs.{All, IsMarkOf, IsSameTeam, Seen, TeamValue, labels_of}
use Rattle.job_runner.proofs.Words.{◌∙◌, Option, ap, arith, length, refl, subst, sym}
use Rattle.job_runner.proofs.Batched.{forks_jobs, forks_nothing, labels_forked, labels_ready, none_left, ready_length}
use Rattle.job_runner.proofs.contexts.TaskCtx.fork_jobs.Goals as goal

pub returns-in_default-clause-answer : goal.returns-in_default-clause-answer
returns-in_default-clause-answer g c =
    forks_nothing c.args.self.now.token c.room_for_jobs.new.self.token c.args.self.now.team c.room_for_jobs.new.self.team c.args.scope c.args.jobs.items c.new.result.items (ap (λ x. x.token) c.room_for_jobs.ensures.rest) c.room_for_jobs.ensures.team c.new.ensures.items

pub start_all-answers-requires-clause-ready : goal.start_all-answers-requires-clause-ready
start_all-answers-requires-clause-ready g c =
    let there = c.room_for_jobs.new.self.token in
    let mid = c.fork_labels-forked.new.self.token in
    let jobs = c.args.jobs.items in
    let forked = c.fork_labels-forked.result.0.items in
    let list = c.as_slice-2.ensures.value ∙ (c.in-Some.ensures.labels ∙ ap (λ js. labels_of js) c.as_slice.ensures.value) in
    let forks = labels_forked there there mid c.args.scope (labels_of jobs) c.as_slice-2.result.now forked c.fork_labels-forked.result.1 refl list c.fork_labels-forked.ensures.forks in
    labels_ready g.N.RealmName.table c.args.scope there mid jobs forked c.fork_labels-forked.result.1 c.fork_labels-forked.ensures.named forks

pub start_all-answers-requires-clause-rooms : goal.start_all-answers-requires-clause-rooms
start_all-answers-requires-clause-rooms g c =
    let fits = ready_length g.N.RealmName.table c.args.scope c.args.jobs.items c.fork_labels-forked.result.0.items (start_all-answers-requires-clause-ready g c) in
    omega (arith, fits, c.in-Some.ensures.rooms, ap (λ js. length js) c.as_slice.ensures.value)

pub start_all-answers-requires-clause-marked : goal.start_all-answers-requires-clause-marked
start_all-answers-requires-clause-marked g c =
    let opened = ap (λ x. x.opened.items) (c.fork_labels-forked.ensures.rest.0) ∙ ap (λ x. x.opened.items) c.room_for_jobs.ensures.rest in
    subst (λ os. All (λ (one : Unit {0} × Option Seen). IsMarkOf c.args.scope os one.1) c.in-Some.rooms.items) (sym opened) c.in-Some.ensures.marked

pub start_all-answers-requires-clause-room : goal.start_all-answers-requires-clause-room
start_all-answers-requires-clause-room g c =
    let fits = ready_length g.N.RealmName.table c.args.scope c.args.jobs.items c.fork_labels-forked.result.0.items (start_all-answers-requires-clause-ready g c) in
    omega (arith, fits, c.in-Some.ensures.answers.1, ap (λ js. length js) c.as_slice.ensures.value)

pub returns-clause-answer : goal.returns-clause-answer
returns-clause-answer g c =
    let old = c.args.self.now.token in
    let there = c.room_for_jobs.new.self.token in
    let mid = c.fork_labels-forked.new.self.token in
    let new = c.start_all-answers.new.self in
    let jobs = c.args.jobs.items in
    let forked = c.fork_labels-forked.result.0.items in
    let refusal = c.fork_labels-forked.result.1 in
    let list = c.as_slice-2.ensures.value ∙ (c.in-Some.ensures.labels ∙ ap (λ js. labels_of js) c.as_slice.ensures.value) in
    let forks = labels_forked old there mid c.args.scope (labels_of jobs) c.as_slice-2.result.now forked refusal (ap (λ x. x.token) c.room_for_jobs.ensures.rest) list c.fork_labels-forked.ensures.forks in
    let roomy = subst (λ (t : TeamValue). IsSameTeam c.args.self.now.team t) (sym (ap (λ x. x.team) c.fork_labels-forked.ensures.rest.0)) c.room_for_jobs.ensures.team in
    forks_jobs old mid new.token c.args.self.now.team c.fork_labels-forked.new.self.team new.team c.args.scope jobs c.start_all-answers.result.1.items forked c.start_all-answers.result.0.items refusal roomy forks c.start_all-answers.ensures.starts

pub returns-clause-all : goal.returns-clause-all
returns-clause-all g c =
    let new = c.start_all-answers.new.self in
    none_left c.args.self.now.token new.token c.args.self.now.team new.team c.args.scope c.args.jobs.items c.start_all-answers.result.1.items c.start_all-answers.result.0.items c.fork_labels-forked.result.1 (returns-clause-answer g c)

use Rattle.std.proofs.Common.{◌∷◌, ◌≡◌, Option, Some, ap, reverse, rules, subst, sym}
use Rattle.job_runner.specs.{IsMarkOf, Seen}
use Rattle.job_runner.proofs.Words.{All-pop}
use Rattle.job_runner.proofs.Batched.{ready_rest, reverse_popped, starting_on, starting_ready, starting_turned}
use Rattle.job_runner.proofs.contexts.TaskCtx.start_all.Goals as goal

pub loop-next-init : goal.loop-next-init
loop-next-init g c =
    let new = c.start_together.new.self in
    let jobs = c.args.jobs.items in
    let left = reverse c.start_together.new.jobs.items in
    let forked = c.args.forked.items in
    let later = reverse c.start_together.new.forked.items in
    let answers = c.start_together.new.answers.items in
    let starting = starting_turned c.args.self.now.token new.token c.args.self.now.team new.team jobs c.reverse.new.self.items left forked c.reverse-2.new.self.items later answers c.reverse.ensures.items c.reverse-2.ensures.items c.start_together.ensures.starting in (
      starting,
      starting_ready g.N.RealmName.table c.args.scope c.args.self.now.token new.token c.args.self.now.team new.team jobs left forked later answers starting c.requires.ready,
      c.start_together.ensures.marked,
      c.start_together.ensures.rooms,
      c.start_together.ensures.room,
      search rules,
    )

pub start_one-answer-requires-clause-marked : goal.start_one-answer-requires-clause-marked
start_one-answer-requires-clause-marked g c =
    let so_far = c.loop-next.invariant in
    let P : Unit {0} × Option Seen → Type 0 = λ room. IsMarkOf c.args.scope c.args.self.now.opened.items room.1 in
    let marked = (All-pop P c.loop-next.rooms.items c.pop-in-Some-2.new.self.items (Some c.in-Some-pop-2.room) c.in-Some-pop-2.ensures.items so_far.2).1 in
    subst (λ opened. IsMarkOf c.args.scope opened c.in-Some-pop-2.room.1) (sym (ap (λ x. x.opened.items) so_far.5)) marked

pub loop-next-preserved : goal.loop-next-preserved
loop-next-preserved g c =
    let so_far = c.loop-next.invariant in
    let P : Unit {0} × Option Seen → Type 0 = λ room. IsMarkOf c.args.scope c.args.self.now.opened.items room.1 in
    let job = c.in-Some-pop.job in
    let next = c.in-Some.next in
    let rest = reverse c.pop-in-Some.new.self.items in
    let others = reverse c.pop.new.self.items in
    let jobs : reverse c.loop-next.jobs.items ≡ job ∷ rest = reverse_popped c.loop-next.jobs.items c.pop-in-Some.new.self.items job c.in-Some-pop.ensures.items in
    let forked : reverse c.loop-next.forked.items ≡ next ∷ others = reverse_popped c.loop-next.forked.items c.pop.new.self.items next c.in-Some.ensures.items in
    let new = c.start_one-answer.new.self in
    let starting = starting_on c.args.self.now.token c.loop-next.self.token new.token c.args.self.now.team c.loop-next.self.team new.team c.args.jobs.items (reverse c.loop-next.jobs.items) rest c.args.forked.items (reverse c.loop-next.forked.items) others c.loop-next.answers.items job next c.start_one-answer.result so_far.0 jobs forked c.start_one-answer.ensures.rest.1 c.start_one-answer.ensures.answer in (
      rw c.push_reserved.ensures.items starting,
      ready_rest g.N.RealmName.table c.args.scope (reverse c.loop-next.jobs.items) rest (reverse c.loop-next.forked.items) others job next so_far.1 jobs forked,
      (All-pop P c.loop-next.rooms.items c.pop-in-Some-2.new.self.items (Some c.in-Some-pop-2.room) c.in-Some-pop-2.ensures.items so_far.2).0,
      search rules,
      search rules,
      search rules,
    )

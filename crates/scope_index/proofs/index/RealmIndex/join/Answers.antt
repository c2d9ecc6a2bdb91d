use Rattle.scope_index.specs.{HasAppliedAt, IndexTable, IsReadyAt, Join}
use Rattle.scope_index.proofs.Words.{ℕ, ◌∙◌, deadlines_stay, envs_stay, join_has, refl, subst, sym}
use Rattle.scope_index.proofs.{Following.alike_next_at, Following.room_stays, ForkSteps.forks_stay, Wanted.join_row}
use Rattle.scope_index.proofs.index.RealmIndex.join.Goals as goal

pub join-requires : goal.join-requires
join-requires c =
    let old : IndexTable = record { rows = c.self.inside.rows; cancels = c.self.inside.cancels; envs = c.self.inside.envs; forks = c.self.inside.forks; deadlines = c.self.inside.deadlines } in
    let ready = subst (λ t. (actor : ℕ) × IsReadyAt t (Join actor c.args.scope) c.args.place) (sym c.self.view_is) c.requires in
    join_row old ready.0 c.args.scope ready.1.0

pub join-requires-2 : goal.join-requires-2
join-requires-2 c =
    let ready = subst (λ t. (actor : ℕ) × IsReadyAt t (Join actor c.args.scope) c.args.place) (sym c.self.view_is) c.requires in
    let at = ready.1.0 in
    join_has at.limits at.history c.self.inside.rows ready.0 c.args.scope at.accepted at.kept.rows

pub returns : goal.returns
returns c = λ actor.
    let old : IndexTable = record { rows = c.self.inside.rows; cancels = c.self.inside.cancels; envs = c.self.inside.envs; forks = c.self.inside.forks; deadlines = c.self.inside.deadlines } in
    let new : IndexTable = record { rows = c.join-2.new.self; cancels = c.join.new.self; envs = c.self.inside.envs; forks = c.self.inside.forks; deadlines = c.self.inside.deadlines } in
    subst (λ t. HasAppliedAt t (Join actor c.args.scope) c.args.place new) c.self.view_is
    (λ L h legal ok kept at.
    let cancels = c.join.ensures.agrees L h actor legal kept.cancels in
    record {
      rows = c.join-2.ensures.agrees L h actor legal ok kept.rows at;
      cancels = cancels;
      envs = envs_stay h (Join actor c.args.scope) old.envs refl kept.envs;
      forks = forks_stay h (Join actor c.args.scope) old.forks refl kept.forks;
      deadlines = deadlines_stay h (Join actor c.args.scope) old.deadlines refl kept.deadlines;
      room = room_stays h (Join actor c.args.scope) old.cancels new.cancels kept.room (cancels.numbered ∙ sym kept.cancels.numbered) c.join.ensures.accounts (λ s. refl);
    })

pub invariant_of-self : goal.invariant_of-self
invariant_of-self c =
    let new : IndexTable = record { rows = c.join-2.new.self; cancels = c.join.new.self; envs = c.self.inside.envs; forks = c.self.inside.forks; deadlines = c.self.inside.deadlines } in
    alike_next_at c.args.self.now new (Join c.requires.0 c.args.scope) c.args.place c.requires.1 (returns c c.requires.0)

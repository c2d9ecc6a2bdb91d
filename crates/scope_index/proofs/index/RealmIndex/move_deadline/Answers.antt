use Rattle.scope_index.specs.{HasAppliedAt, IndexTable, IsReadyAt, Move}
use Rattle.scope_index.proofs.Words.{opened_has_deadline, refl, rows_deadline_moved, subst, sym}
use Rattle.scope_index.proofs.{Following.alike_next_at, Following.cancels_follow, Wanted.latest, Wanted.move_passed, Wanted.move_row}
use Rattle.scope_index.proofs.index.RealmIndex.move_deadline.Goals as goal

pub move_deadline-requires-clause-row : goal.move_deadline-requires-clause-row
move_deadline-requires-clause-row c =
    let old : IndexTable = record { rows = c.self.inside.rows; cancels = c.self.inside.cancels; envs = c.self.inside.envs; forks = c.self.inside.forks; deadlines = c.self.inside.deadlines } in
    move_row old c.args.scope c.args.deadline (subst (λ t. IsReadyAt t (Move c.args.scope c.args.deadline) c.args.place) (sym c.self.view_is) c.requires).0

pub move_deadline-requires-clause-latest : goal.move_deadline-requires-clause-latest
move_deadline-requires-clause-latest c =
    let old : IndexTable = record { rows = c.self.inside.rows; cancels = c.self.inside.cancels; envs = c.self.inside.envs; forks = c.self.inside.forks; deadlines = c.self.inside.deadlines } in
    latest old (Move c.args.scope c.args.deadline) c.args.place (subst (λ t. IsReadyAt t (Move c.args.scope c.args.deadline) c.args.place) (sym c.self.view_is) c.requires)

pub set-requires : goal.set-requires
set-requires c =
    let ready = (subst (λ t. IsReadyAt t (Move c.args.scope c.args.deadline) c.args.place) (sym c.self.view_is) c.requires).0 in
    opened_has_deadline ready.history c.self.inside.deadlines c.args.scope ready.kept.deadlines (move_passed ready.limits ready.history c.args.scope c.args.deadline ready.accepted).opened

pub returns-clause-followed : goal.returns-clause-followed
returns-clause-followed c =
    let old : IndexTable = record { rows = c.self.inside.rows; cancels = c.self.inside.cancels; envs = c.self.inside.envs; forks = c.self.inside.forks; deadlines = c.self.inside.deadlines } in
    let new : IndexTable = record { rows = c.self.inside.rows; cancels = c.move_deadline.new.self; envs = c.self.inside.envs; forks = c.self.inside.forks; deadlines = c.set.new.self } in
    subst (λ t. HasAppliedAt t (Move c.args.scope c.args.deadline) c.args.place new) c.self.view_is
    (cancels_follow old new (Move c.args.scope c.args.deadline) c.args.place refl refl (λ s. refl) refl refl refl c.move_deadline.ensures.accounts c.set.ensures.agrees
    (λ L h legal rows. rows_deadline_moved L h old.rows c.args.scope c.args.deadline legal rows)
    (λ L h legal ok cancels at. c.in_ok-move_deadline.ensures.moved L h legal cancels at (move_passed L h c.args.scope c.args.deadline ok).unjoined))

pub invariant_of-self-2 : goal.invariant_of-self-2
invariant_of-self-2 c =
    let new : IndexTable = record { rows = c.self.inside.rows; cancels = c.move_deadline.new.self; envs = c.self.inside.envs; forks = c.self.inside.forks; deadlines = c.set.new.self } in
    alike_next_at c.args.self.now new (Move c.args.scope c.args.deadline) c.args.place c.requires (returns-clause-followed c)

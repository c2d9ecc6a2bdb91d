use Rattle.scope_index.specs.{HasAppliedAt, IndexTable, IsReadyAt, Tick}
use Rattle.scope_index.proofs.Words.{deadlines_stay, refl, rows_ticked, subst, sym}
use Rattle.scope_index.proofs.{Following.cancels_follow, Wanted.latest, Wanted.tick_forward}
use Rattle.scope_index.proofs.index.RealmIndex.tick.Goals as goal

pub tick-requires-clause-forward : goal.tick-requires-clause-forward
tick-requires-clause-forward c =
    let old : IndexTable = record { rows = c.self.inside.rows; cancels = c.self.inside.cancels; envs = c.self.inside.envs; forks = c.self.inside.forks; deadlines = c.self.inside.deadlines } in
    tick_forward old c.args.now (subst (λ t. IsReadyAt t (Tick c.args.now) c.args.place) (sym c.self.view_is) c.requires).0

pub tick-requires-clause-latest : goal.tick-requires-clause-latest
tick-requires-clause-latest c =
    let old : IndexTable = record { rows = c.self.inside.rows; cancels = c.self.inside.cancels; envs = c.self.inside.envs; forks = c.self.inside.forks; deadlines = c.self.inside.deadlines } in
    latest old (Tick c.args.now) c.args.place (subst (λ t. IsReadyAt t (Tick c.args.now) c.args.place) (sym c.self.view_is) c.requires)

pub returns : goal.returns
returns c =
    let old : IndexTable = record { rows = c.self.inside.rows; cancels = c.self.inside.cancels; envs = c.self.inside.envs; forks = c.self.inside.forks; deadlines = c.self.inside.deadlines } in
    let new : IndexTable = record { rows = c.self.inside.rows; cancels = c.tick.new.self; envs = c.self.inside.envs; forks = c.self.inside.forks; deadlines = c.self.inside.deadlines } in
    subst (λ t. HasAppliedAt t (Tick c.args.now) c.args.place new) c.self.view_is
    (cancels_follow old new (Tick c.args.now) c.args.place refl refl (λ s. refl) refl refl refl c.tick.ensures.accounts
    (λ h are. deadlines_stay h (Tick c.args.now) old.deadlines refl are)
    (λ L h legal rows. rows_ticked L h old.rows c.args.now legal rows)
    (λ L h legal ok cancels at. c.tick.ensures.agrees L h legal cancels at))

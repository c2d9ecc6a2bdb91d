use Rattle.scope_index.specs.{Call, Cancel, CancelTable, HasAppliedAt, IndexTable, IsReadyAt, cancelled}
use Rattle.scope_index.proofs.Words.{◌∙◌, ap, deadlines_stay, refl, rows_cancelled, subst, sym}
use Rattle.scope_index.proofs.{CancelReadings.has_row, CancelSteps.cancelled_next, Following.alike_next_at, Following.cancels_follow, Wanted.cancel_opened, Wanted.cancel_row, Wanted.latest}
use Rattle.scope_index.proofs.index.RealmIndex.cancel.Goals as goal

pub cancel-requires-clause-row : goal.cancel-requires-clause-row
cancel-requires-clause-row c =
    let old : IndexTable = record { rows = c.self.inside.rows; cancels = c.self.inside.cancels; envs = c.self.inside.envs; forks = c.self.inside.forks; deadlines = c.self.inside.deadlines } in
    cancel_row old c.args.scope (subst (λ t. IsReadyAt t (Cancel c.args.scope) c.args.place) (sym c.self.view_is) c.requires).0

pub cancel-requires-clause-latest : goal.cancel-requires-clause-latest
cancel-requires-clause-latest c =
    let old : IndexTable = record { rows = c.self.inside.rows; cancels = c.self.inside.cancels; envs = c.self.inside.envs; forks = c.self.inside.forks; deadlines = c.self.inside.deadlines } in
    latest old (Cancel c.args.scope) c.args.place (subst (λ t. IsReadyAt t (Cancel c.args.scope) c.args.place) (sym c.self.view_is) c.requires)

pub returns : goal.returns
returns c =
    let old : IndexTable = record { rows = c.self.inside.rows; cancels = c.self.inside.cancels; envs = c.self.inside.envs; forks = c.self.inside.forks; deadlines = c.self.inside.deadlines } in
    let new : IndexTable = record { rows = c.self.inside.rows; cancels = c.cancel.new.self; envs = c.self.inside.envs; forks = c.self.inside.forks; deadlines = c.self.inside.deadlines } in
    subst (λ t. HasAppliedAt t (Cancel c.args.scope) c.args.place new) c.self.view_is
    (cancels_follow old new (Cancel c.args.scope) c.args.place refl refl (λ s. refl) refl refl refl (ap (λ (t : CancelTable). t.accounts) c.cancel.ensures)
    (λ h are. deadlines_stay h (Cancel c.args.scope) old.deadlines refl are)
    (λ L h legal rows. rows_cancelled L h old.rows c.args.scope legal rows)
    (λ L h legal ok cancels at. cancelled_next L h c.args.scope old.cancels new.cancels legal cancels (has_row h old.cancels c.args.scope cancels (cancel_opened L h c.args.scope ok)) (c.cancel.ensures ∙ ap (cancelled old.cancels c.args.scope Call) at)))

pub invariant_of-self : goal.invariant_of-self
invariant_of-self c =
    let new : IndexTable = record { rows = c.self.inside.rows; cancels = c.cancel.new.self; envs = c.self.inside.envs; forks = c.self.inside.forks; deadlines = c.self.inside.deadlines } in
    alike_next_at c.args.self.now new (Cancel c.args.scope) c.args.place c.requires (returns c)

use Rattle.scope_index.specs.{HasApplied, IndexTable, IsReadyFor, Unbind}
use Rattle.scope_index.proofs.Words.{refl, rows_unbound, subst, sym}
use Rattle.scope_index.proofs.{Following.envs_follow, Wanted.unbind_env}
use Rattle.scope_index.proofs.index.RealmIndex.unbind.Goals as goal

pub unbind-requires : goal.unbind-requires
unbind-requires c =
    let old : IndexTable = record { rows = c.self.inside.rows; cancels = c.self.inside.cancels; envs = c.self.inside.envs; forks = c.self.inside.forks; deadlines = c.self.inside.deadlines } in
    unbind_env old c.args.actor (subst (λ t. IsReadyFor t (Unbind c.args.actor)) (sym c.self.view_is) c.requires)

pub returns : goal.returns
returns c =
    let old : IndexTable = record { rows = c.self.inside.rows; cancels = c.self.inside.cancels; envs = c.self.inside.envs; forks = c.self.inside.forks; deadlines = c.self.inside.deadlines } in
    let new : IndexTable = record { rows = c.self.inside.rows; cancels = c.self.inside.cancels; envs = c.unbind.new.self; forks = c.self.inside.forks; deadlines = c.self.inside.deadlines } in
    subst (λ t. HasApplied t (Unbind c.args.actor) new) c.self.view_is
    (envs_follow old new (Unbind c.args.actor) refl refl refl (λ s. refl) refl refl refl refl
    (λ L h legal rows. rows_unbound L h old.rows c.args.actor legal rows)
    c.unbind.ensures.agrees)

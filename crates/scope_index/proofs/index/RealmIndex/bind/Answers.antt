use Rattle.scope_index.specs.{Bind, HasApplied, IndexTable, IsReadyFor}
use Rattle.scope_index.proofs.Words.{refl, rows_bound, subst, sym}
use Rattle.scope_index.proofs.{Following.envs_follow, Wanted.bind_env}
use Rattle.scope_index.proofs.index.RealmIndex.bind.Goals as goal

pub bind-requires : goal.bind-requires
bind-requires c =
    let old : IndexTable = record { rows = c.self.inside.rows; cancels = c.self.inside.cancels; envs = c.self.inside.envs; forks = c.self.inside.forks; deadlines = c.self.inside.deadlines } in
    bind_env old c.args.actor (record { key = c.args.key; value = c.args.value }) (subst (λ t. IsReadyFor t (Bind c.args.actor (record { key = c.args.key; value = c.args.value }))) (sym c.self.view_is) c.requires)

pub returns-clause-followed : goal.returns-clause-followed
returns-clause-followed c =
    let old : IndexTable = record { rows = c.self.inside.rows; cancels = c.self.inside.cancels; envs = c.self.inside.envs; forks = c.self.inside.forks; deadlines = c.self.inside.deadlines } in
    let new : IndexTable = record { rows = c.self.inside.rows; cancels = c.self.inside.cancels; envs = c.bind.new.self; forks = c.self.inside.forks; deadlines = c.self.inside.deadlines } in
    subst (λ t. HasApplied t (Bind c.args.actor (record { key = c.args.key; value = c.args.value })) new) c.self.view_is
    (envs_follow old new (Bind c.args.actor (record { key = c.args.key; value = c.args.value })) refl refl refl (λ s. refl) refl refl refl refl
    (λ L h legal rows. rows_bound L h old.rows c.args.actor (record { key = c.args.key; value = c.args.value }) legal rows)
    c.in_ok-bind.ensures.agrees)

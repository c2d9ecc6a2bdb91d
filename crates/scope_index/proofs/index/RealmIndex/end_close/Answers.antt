use Rattle.scope_index.specs.{EndClose, HasApplied, IndexTable, IsReadyFor}
use Rattle.scope_index.proofs.Words.{can_end_close, refl, subst, sym}
use Rattle.scope_index.proofs.Following.{alike_next, rows_follow}
use Rattle.scope_index.proofs.index.RealmIndex.end_close.Goals as goal

pub end_close-requires : goal.end_close-requires
end_close-requires c =
    let ready = subst (λ t. IsReadyFor t (EndClose c.args.actor c.args.scope)) (sym c.self.view_is) c.requires in
    can_end_close ready.limits ready.history c.self.inside.rows c.args.actor c.args.scope ready.accepted ready.kept.rows

pub returns : goal.returns
returns c =
    let old : IndexTable = record { rows = c.self.inside.rows; cancels = c.self.inside.cancels; envs = c.self.inside.envs; forks = c.self.inside.forks; deadlines = c.self.inside.deadlines } in
    let new : IndexTable = record { rows = c.end_close.new.self; cancels = c.self.inside.cancels; envs = c.self.inside.envs; forks = c.self.inside.forks; deadlines = c.self.inside.deadlines } in
    subst (λ t. HasApplied t (EndClose c.args.actor c.args.scope) new) c.self.view_is
    (rows_follow old new (EndClose c.args.actor c.args.scope) refl refl refl refl (λ s. refl) refl refl refl refl c.end_close.ensures.agrees)

pub invariant_of-self : goal.invariant_of-self
invariant_of-self c =
    let new : IndexTable = record { rows = c.end_close.new.self; cancels = c.self.inside.cancels; envs = c.self.inside.envs; forks = c.self.inside.forks; deadlines = c.self.inside.deadlines } in
    alike_next c.args.self.now new (EndClose c.args.actor c.args.scope) c.requires (returns c)

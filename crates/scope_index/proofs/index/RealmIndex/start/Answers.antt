use Rattle.scope_index.specs.{HasApplied, IndexTable, IsReadyFor, Start}
use Rattle.scope_index.proofs.Words.{can_start, refl, subst, sym}
use Rattle.scope_index.proofs.Following.{alike_next, rows_follow}
use Rattle.scope_index.proofs.index.RealmIndex.start.Goals as goal

pub start-requires : goal.start-requires
start-requires c =
    let ready = subst (λ t. IsReadyFor t (Start c.args.task)) (sym c.self.view_is) c.requires in
    can_start ready.limits ready.history c.self.inside.rows c.args.task ready.legal ready.accepted ready.kept.rows

pub returns : goal.returns
returns c =
    let old : IndexTable = record { rows = c.self.inside.rows; cancels = c.self.inside.cancels; envs = c.self.inside.envs; forks = c.self.inside.forks; deadlines = c.self.inside.deadlines } in
    let new : IndexTable = record { rows = c.start.new.self; cancels = c.self.inside.cancels; envs = c.self.inside.envs; forks = c.self.inside.forks; deadlines = c.self.inside.deadlines } in
    subst (λ t. HasApplied t (Start c.args.task) new) c.self.view_is
    (rows_follow old new (Start c.args.task) refl refl refl refl (λ s. refl) refl refl refl refl c.start.ensures.agrees)

pub invariant_of-self : goal.invariant_of-self
invariant_of-self c =
    let new : IndexTable = record { rows = c.start.new.self; cancels = c.self.inside.cancels; envs = c.self.inside.envs; forks = c.self.inside.forks; deadlines = c.self.inside.deadlines } in
    alike_next c.args.self.now new (Start c.args.task) c.requires (returns c)

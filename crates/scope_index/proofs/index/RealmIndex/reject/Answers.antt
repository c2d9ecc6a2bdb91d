use Rattle.scope_index.specs.{HasApplied, IndexTable, IsReadyFor, Reject}
use Rattle.scope_index.proofs.Words.{can_reject, refl, subst, sym}
use Rattle.scope_index.proofs.Following.{alike_next, rows_follow}
use Rattle.scope_index.proofs.index.RealmIndex.reject.Goals as goal

pub reject-requires : goal.reject-requires
reject-requires c =
    let ready = subst (λ t. IsReadyFor t (Reject c.args.task)) (sym c.self.view_is) c.requires in
    can_reject ready.limits ready.history c.self.inside.rows c.args.task ready.legal ready.accepted ready.kept.rows

pub returns : goal.returns
returns c =
    let old : IndexTable = record { rows = c.self.inside.rows; cancels = c.self.inside.cancels; envs = c.self.inside.envs; forks = c.self.inside.forks; deadlines = c.self.inside.deadlines } in
    let new : IndexTable = record { rows = c.reject.new.self; cancels = c.self.inside.cancels; envs = c.self.inside.envs; forks = c.self.inside.forks; deadlines = c.self.inside.deadlines } in
    subst (λ t. HasApplied t (Reject c.args.task) new) c.self.view_is
    (rows_follow old new (Reject c.args.task) refl refl refl refl (λ s. refl) refl refl refl refl c.reject.ensures.agrees)

pub invariant_of-self : goal.invariant_of-self
invariant_of-self c =
    let new : IndexTable = record { rows = c.reject.new.self; cancels = c.self.inside.cancels; envs = c.self.inside.envs; forks = c.self.inside.forks; deadlines = c.self.inside.deadlines } in
    alike_next c.args.self.now new (Reject c.args.task) c.requires (returns c)

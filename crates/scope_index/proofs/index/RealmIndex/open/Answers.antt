use Rattle.scope_index.specs.{HasAppliedAt, IndexTable, IsIndexOf, IsReadyAt, Open}
use Rattle.scope_index.proofs.Words.{◌∙◌, can_open, envs_stay, refl, subst, sym}
use Rattle.scope_index.proofs.{Following.alike_next_at, Opening.forks_roomier, Opening.on_err_anyway, Opening.room_opened, Roomier.kept_for_open, Roomier.scope_rows_roomier, Wanted.around_row, Wanted.latest, Wanted.open_env}
use Rattle.scope_index.proofs.{Wanted.open_level, Wanted.open_numbers}
use Rattle.scope_index.proofs.index.RealmIndex.open.Goals as goal

pub stack_len-height-requires : goal.stack_len-height-requires
stack_len-height-requires c =
    let old : IndexTable = record { rows = c.self.inside.rows; cancels = c.self.inside.cancels; envs = c.self.inside.envs; forks = c.self.inside.forks; deadlines = c.self.inside.deadlines } in
    open_env old c.args.actor c.args.policy c.args.options (subst (λ t. IsReadyAt t (Open c.args.actor c.args.policy c.args.options) c.args.place) (sym c.self.view_is) c.requires).0

pub open-requires-clause-there : goal.open-requires-clause-there
open-requires-clause-there c =
    let ready = (subst (λ t. IsReadyAt t (Open c.args.actor c.args.policy c.args.options) c.args.place) (sym c.self.view_is) c.requires).0 in
    around_row ready.limits ready.history c.self.inside.cancels c.args.actor c.surrounding-parent.result ready.legal ready.kept.cancels
    (c.surrounding-parent.ensures ready.limits ready.history ready.legal (subst (IsIndexOf ready.history) c.self.view_is ready.kept))

pub open-requires-clause-level : goal.open-requires-clause-level
open-requires-clause-level c =
    let ready = (subst (λ t. IsReadyAt t (Open c.args.actor c.args.policy c.args.options) c.args.place) (sym c.self.view_is) c.requires).0 in
    open_level ready.limits ready.history c.self.inside.cancels c.args.actor c.args.policy c.args.options c.surrounding-parent.result ready.legal ready.accepted ready.kept.cancels
    (c.surrounding-parent.ensures ready.limits ready.history ready.legal (subst (IsIndexOf ready.history) c.self.view_is ready.kept))

pub open-requires-clause-number : goal.open-requires-clause-number
open-requires-clause-number c =
    let ready = (subst (λ t. IsReadyAt t (Open c.args.actor c.args.policy c.args.options) c.args.place) (sym c.self.view_is) c.requires).0 in
    open_numbers ready.limits ready.history c.self.inside.cancels c.args.actor c.args.policy c.args.options ready.accepted ready.kept.cancels

pub open-requires-clause-latest : goal.open-requires-clause-latest
open-requires-clause-latest c =
    let old : IndexTable = record { rows = c.self.inside.rows; cancels = c.self.inside.cancels; envs = c.self.inside.envs; forks = c.self.inside.forks; deadlines = c.self.inside.deadlines } in
    latest old (Open c.args.actor c.args.policy c.args.options) c.args.place (subst (λ t. IsReadyAt t (Open c.args.actor c.args.policy c.args.options) c.args.place) (sym c.self.view_is) c.requires)

pub open-requires-2-clause-there : goal.open-requires-2-clause-there
open-requires-2-clause-there c =
    let ready = (subst (λ t. IsReadyAt t (Open c.args.actor c.args.policy c.args.options) c.args.place) (sym c.self.view_is) c.requires).0 in
    can_open ready.limits ready.history c.reserve_scope.new.self c.args.actor c.args.policy c.args.options ready.accepted
    (scope_rows_roomier ready.history c.self.inside.rows c.reserve_scope.new.self c.reserve_scope.ensures.kept ready.kept.rows)

pub returns-in_err-reserve_scope-2-clause-refused : goal.returns-in_err-reserve_scope-2-clause-refused
returns-in_err-reserve_scope-2-clause-refused c =
    on_err_anyway c.from_residual-in_err-reserve_scope-2.result
    (λ L h legal kept.
    let was = subst (IsIndexOf h) (sym c.self.view_is) kept in
    kept_for_open h _ _ _ _ (scope_rows_roomier h c.self.inside.rows c.reserve_scope.new.self c.reserve_scope.ensures.kept was.rows) (forks_roomier h c.self.inside.forks c.reserve_scope-2.new.self c.reserve_scope-2.ensures.kept was.forks) (was.deadlines) was)

pub returns-in_err-reserve_scope-3-clause-refused : goal.returns-in_err-reserve_scope-3-clause-refused
returns-in_err-reserve_scope-3-clause-refused c =
    on_err_anyway c.from_residual-in_err-reserve_scope-3.result
    (λ L h legal kept.
    let was = subst (IsIndexOf h) (sym c.self.view_is) kept in
    kept_for_open h _ _ _ _ (scope_rows_roomier h c.self.inside.rows c.reserve_scope.new.self c.reserve_scope.ensures.kept was.rows) (forks_roomier h c.self.inside.forks c.reserve_scope-2.new.self c.reserve_scope-2.ensures.kept was.forks) (c.reserve_scope-3.ensures.agrees h was.deadlines) was)

pub returns-in_err-open-clause-refused : goal.returns-in_err-open-clause-refused
returns-in_err-open-clause-refused c =
    on_err_anyway c.from_residual-in_err-open.result
    (λ L h legal kept.
    let was = subst (IsIndexOf h) (sym c.self.view_is) kept in
    rw c.in_err-open.ensures.refused
    (kept_for_open h _ _ _ _ (scope_rows_roomier h c.self.inside.rows c.reserve_scope.new.self c.reserve_scope.ensures.kept was.rows) (forks_roomier h c.self.inside.forks c.reserve_scope-2.new.self c.reserve_scope-2.ensures.kept was.forks) (c.reserve_scope-3.ensures.agrees h was.deadlines) was))

pub returns-clause-followed : goal.returns-clause-followed
returns-clause-followed c =
    let old : IndexTable = record { rows = c.self.inside.rows; cancels = c.self.inside.cancels; envs = c.self.inside.envs; forks = c.self.inside.forks; deadlines = c.self.inside.deadlines } in
    let new : IndexTable = record { rows = c.open-2.new.self; cancels = c.open.new.self; envs = c.self.inside.envs; forks = c.open-3.new.self; deadlines = c.open-4.new.self } in
    subst (λ t. HasAppliedAt t (Open c.args.actor c.args.policy c.args.options) c.args.place new) c.self.view_is
    (λ L h legal ok kept at.
    let parent = c.surrounding-parent.ensures L h legal (subst (IsIndexOf h) c.self.view_is kept) in
    let rows = scope_rows_roomier h c.self.inside.rows c.reserve_scope.new.self c.reserve_scope.ensures.kept kept.rows in
    let cancels = c.in_ok-open.ensures.opened L h c.args.actor legal kept.cancels at parent in
    record {
      rows = c.open-2.ensures.agrees L h legal ok rows at parent (c.stack_len-height.ensures.agrees h kept.envs);
      cancels = cancels;
      envs = envs_stay h (Open c.args.actor c.args.policy c.args.options) old.envs refl kept.envs;
      forks = c.open-3.ensures.agrees L h c.args.actor c.args.policy c.args.options legal (forks_roomier h c.self.inside.forks c.reserve_scope-2.new.self c.reserve_scope-2.ensures.kept kept.forks);
      deadlines = c.open-4.ensures.agrees L h c.args.actor c.args.policy c.args.options legal refl (c.reserve_scope-3.ensures.agrees h kept.deadlines);
      room = room_opened L h c.args.actor c.args.policy c.args.options old.cancels new.cancels legal kept.cancels kept.room (cancels.numbered ∙ sym kept.cancels.numbered) c.in_ok-open.ensures.accounts;
    })

pub invariant_of-self-2 : goal.invariant_of-self-2
invariant_of-self-2 c =
    let new : IndexTable = record { rows = c.open-2.new.self; cancels = c.open.new.self; envs = c.self.inside.envs; forks = c.open-3.new.self; deadlines = c.open-4.new.self } in
    alike_next_at c.args.self.now new (Open c.args.actor c.args.policy c.args.options) c.args.place c.requires (returns-clause-followed c)

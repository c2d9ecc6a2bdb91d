use Rattle.std.proofs.Common.{◌+◌, ap, arith, refl, subst, sym}
use Rattle.scope_index.specs.{AreCancelsOf, AreEnvsOf, Fork, HasAppliedAt, HasRoomForEnds, HasRoomToFork, HasRow, IndexTable, IsIndexOf, IsReadyAt}
use Rattle.scope_index.proofs.Words.{can_fork, deadlines_stay, fork_place}
use Rattle.scope_index.proofs.{EventSteps.cancels_stay, Following.alike_next_at, Forking.cancels_roomier, Forking.fork_env, Forking.fork_list, Forking.fork_numbers, Forking.fork_row, Forking.room_forked, Forking.room_reserved}
use Rattle.scope_index.proofs.{Held.still_has_forks, Opening.on_err_anyway, Roomier.kept_for_fork, Roomier.task_rows_roomier}
use Rattle.scope_index.proofs.index.RealmIndex.fork.Goals as goal

pub room_to_fork-more-requires : goal.room_to_fork-more-requires
room_to_fork-more-requires c =
    let ready = (subst (λ t. IsReadyAt t (Fork c.args.actor c.args.scope c.requires.0) c.args.place) (sym c.self.view_is) c.requires.1).0 in
    let old : IndexTable = record { rows = c.self.inside.rows; cancels = c.self.inside.cancels; envs = c.self.inside.envs; forks = c.self.inside.forks; deadlines = c.self.inside.deadlines } in
    subst (λ (t : IndexTable). HasRow t.cancels c.args.scope) c.self.view_is (fork_row old c.args.actor c.args.scope c.requires.0 ready)

pub last_task-task-requires : goal.last_task-task-requires
last_task-task-requires c =
    let ready = (subst (λ t. IsReadyAt t (Fork c.args.actor c.args.scope c.requires.0) c.args.place) (sym c.self.view_is) c.requires.1).0 in
    let few = fork_numbers ready.limits ready.history c.self.inside.rows c.args.actor c.args.scope c.requires.0 ready.accepted ready.kept.rows in
    omega (arith, few)

pub overflow_add-task : goal.overflow_add-task
overflow_add-task c =
    let ready = (subst (λ t. IsReadyAt t (Fork c.args.actor c.args.scope c.requires.0) c.args.place) (sym c.self.view_is) c.requires.1).0 in
    let few = fork_numbers ready.limits ready.history c.self.inside.rows c.args.actor c.args.scope c.requires.0 ready.accepted ready.kept.rows in
    omega (arith, few, c.last_task-task.ensures.number)

pub reserve-requires : goal.reserve-requires
reserve-requires c =
    let old : IndexTable = record { rows = c.self.inside.rows; cancels = c.self.inside.cancels; envs = c.self.inside.envs; forks = c.self.inside.forks; deadlines = c.self.inside.deadlines } in
    fork_list old c.args.actor c.args.scope c.requires.0 (subst (λ t. IsReadyAt t (Fork c.args.actor c.args.scope c.requires.0) c.args.place) (sym c.self.view_is) c.requires.1).0

pub returns-in_err-reserve-clause-refused : goal.returns-in_err-reserve-clause-refused
returns-in_err-reserve-clause-refused c =
    on_err_anyway c.from_residual-in_err-reserve.result
    (λ L h legal kept.
    let was = subst (IsIndexOf h) (sym c.self.view_is) kept in
    kept_for_fork h _ _ _ _ (task_rows_roomier h c.self.inside.rows c.reserve_task.new.self c.reserve_task.ensures.kept was.rows) was.cancels was.room (c.reserve.ensures.agrees h was.forks) was)

pub reserve-requires-2 : goal.reserve-requires-2
reserve-requires-2 c =
    let old : IndexTable = record { rows = c.self.inside.rows; cancels = c.self.inside.cancels; envs = c.self.inside.envs; forks = c.self.inside.forks; deadlines = c.self.inside.deadlines } in
    fork_row old c.args.actor c.args.scope c.requires.0 (subst (λ t. IsReadyAt t (Fork c.args.actor c.args.scope c.requires.0) c.args.place) (sym c.self.view_is) c.requires.1).0

pub returns-in_err-reserve-2-clause-refused : goal.returns-in_err-reserve-2-clause-refused
returns-in_err-reserve-2-clause-refused c =
    on_err_anyway c.from_residual-in_err-reserve-2.result
    (λ L h legal kept.
    let was = subst (IsIndexOf h) (sym c.self.view_is) kept in
    kept_for_fork h _ _ _ _ (task_rows_roomier h c.self.inside.rows c.reserve_task.new.self c.reserve_task.ensures.kept was.rows) (subst (AreCancelsOf h) (sym c.in_err-reserve-2.ensures.refused) was.cancels) (subst (HasRoomForEnds h) (sym c.in_err-reserve-2.ensures.refused) was.room) (c.reserve.ensures.agrees h was.forks) was)

pub fork-requires : goal.fork-requires
fork-requires c =
    let ready = (subst (λ t. IsReadyAt t (Fork c.args.actor c.args.scope c.requires.0) c.args.place) (sym c.self.view_is) c.requires.1).0 in
    let old : IndexTable = record { rows = c.self.inside.rows; cancels = c.self.inside.cancels; envs = c.self.inside.envs; forks = c.self.inside.forks; deadlines = c.self.inside.deadlines } in
    fork_env old c.args.actor c.args.scope c.requires.0 ready

pub returns-in_err-fork-clause-refused : goal.returns-in_err-fork-clause-refused
returns-in_err-fork-clause-refused c =
    let old : IndexTable = record { rows = c.self.inside.rows; cancels = c.self.inside.cancels; envs = c.self.inside.envs; forks = c.self.inside.forks; deadlines = c.self.inside.deadlines } in
    let row = fork_row old c.args.actor c.args.scope c.requires.0 (subst (λ t. IsReadyAt t (Fork c.args.actor c.args.scope c.requires.0) c.args.place) (sym c.self.view_is) c.requires.1).0 in
    on_err_anyway c.from_residual-in_err-fork.result
    (λ L h legal kept.
    let was = subst (IsIndexOf h) (sym c.self.view_is) kept in
    let enough = subst (λ (t : IndexTable). HasRoomToFork h t.cancels c.args.scope c.room_to_fork-more.result) (sym c.self.view_is) (c.room_to_fork-more.ensures L h legal kept) in
    record {
      rows = task_rows_roomier h c.self.inside.rows c.reserve_task.new.self c.reserve_task.ensures.kept was.rows;
      cancels = cancels_roomier h old.cancels c.reserve-2.new.self c.args.scope c.room_to_fork-more.result c.in_ok-reserve-2.ensures.reserved was.cancels;
      envs = subst (AreEnvsOf h) (sym c.in_err-fork.ensures.err) was.envs;
      forks = c.reserve.ensures.agrees h was.forks;
      deadlines = was.deadlines;
      room = room_reserved h old.cancels c.reserve-2.new.self c.args.scope c.room_to_fork-more.result row c.in_ok-reserve-2.ensures.reserved enough was.room;
    })

pub overflow_cast-place : goal.overflow_cast-place
overflow_cast-place c =
    let ready = subst (λ t. IsReadyAt t (Fork c.args.actor c.args.scope c.requires.0) c.args.place) (sym c.self.view_is) c.requires.1 in
    omega (arith, ready.1, fork_place ready.0.limits ready.0.history c.args.actor c.args.scope c.requires.0 ready.0.legal ready.0.accepted)

pub fork-requires-2-clause-there : goal.fork-requires-2-clause-there
fork-requires-2-clause-there c =
    let ready = (subst (λ t. IsReadyAt t (Fork c.args.actor c.args.scope c.requires.0) c.args.place) (sym c.self.view_is) c.requires.1).0 in
    can_fork ready.limits ready.history c.reserve_task.new.self c.args.actor c.args.scope c.requires.0 ready.legal ready.accepted
    (task_rows_roomier ready.history c.self.inside.rows c.reserve_task.new.self c.reserve_task.ensures.kept ready.kept.rows)

pub fork-requires-3-clause-list : goal.fork-requires-3-clause-list
fork-requires-3-clause-list c =
    let old : IndexTable = record { rows = c.self.inside.rows; cancels = c.self.inside.cancels; envs = c.self.inside.envs; forks = c.self.inside.forks; deadlines = c.self.inside.deadlines } in
    still_has_forks old.forks c.reserve.new.self c.args.scope c.args.scope _ c.reserve.ensures.kept (fork_list old c.args.actor c.args.scope c.requires.0 (subst (λ t. IsReadyAt t (Fork c.args.actor c.args.scope c.requires.0) c.args.place) (sym c.self.view_is) c.requires.1).0)

pub returns-clause-followed : goal.returns-clause-followed
returns-clause-followed c = λ label.
    let old : IndexTable = record { rows = c.self.inside.rows; cancels = c.self.inside.cancels; envs = c.self.inside.envs; forks = c.self.inside.forks; deadlines = c.self.inside.deadlines } in
    let new : IndexTable = record { rows = c.fork-2.new.self; cancels = c.reserve-2.new.self; envs = c.fork.new.self; forks = c.fork-3.new.self; deadlines = c.self.inside.deadlines } in
    let row = fork_row old c.args.actor c.args.scope c.requires.0 (subst (λ t. IsReadyAt t (Fork c.args.actor c.args.scope c.requires.0) c.args.place) (sym c.self.view_is) c.requires.1).0 in
    subst (λ t. HasAppliedAt t (Fork c.args.actor c.args.scope label) c.args.place new) c.self.view_is
    (λ L h legal ok kept at.
    let whole = subst (IsIndexOf h) c.self.view_is kept in
    let enough = subst (λ (t : IndexTable). HasRoomToFork h t.cancels c.args.scope c.room_to_fork-more.result) (sym c.self.view_is) (c.room_to_fork-more.ensures L h legal whole) in
    let rows = task_rows_roomier h c.self.inside.rows c.reserve_task.new.self c.reserve_task.ensures.kept kept.rows in
    let cancels = cancels_roomier h old.cancels new.cancels c.args.scope c.room_to_fork-more.result c.in_ok-reserve-2.ensures.reserved kept.cancels in
    record {
      rows = c.fork-2.ensures.agrees L h c.args.actor label legal ok rows at (c.is_cancelled-cancelled.ensures L h legal whole);
      cancels = cancels_stay L h (Fork c.args.actor c.args.scope label) new.cancels legal cancels refl;
      envs = c.in_ok-fork.ensures.agrees L h c.args.scope label legal kept.envs;
      forks = c.fork-3.ensures.agrees h c.args.actor label (c.reserve.ensures.agrees h kept.forks) (ap (λ n. n + 1) (c.last_task-task.ensures.agrees h kept.rows));
      deadlines = deadlines_stay h (Fork c.args.actor c.args.scope label) old.deadlines refl kept.deadlines;
      room = room_forked h old.cancels new.cancels c.args.actor c.args.scope label c.room_to_fork-more.result row c.in_ok-reserve-2.ensures.reserved enough kept.room;
    })

pub invariant_of-self-2 : goal.invariant_of-self-2
invariant_of-self-2 c =
    let new : IndexTable = record { rows = c.fork-2.new.self; cancels = c.reserve-2.new.self; envs = c.fork.new.self; forks = c.fork-3.new.self; deadlines = c.self.inside.deadlines } in
    alike_next_at c.args.self.now new (Fork c.args.actor c.args.scope c.requires.0) c.args.place c.requires.1 (returns-clause-followed c c.requires.0)

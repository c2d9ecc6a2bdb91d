use Rattle.std.proofs.Common.{◌∙◌, ◌≡◌, ap, refl, subst, sym}
use Rattle.scope_index.specs.{Finish, HasAppliedAt, IndexTable, IsIndexOf, IsReadyAt, is_cancelled, scope_of}
use Rattle.scope_index.proofs.Words.{can_finish, deadlines_stay, envs_stay}
use Rattle.scope_index.proofs.{Ending.cancels_ended, Ending.ends_in, Ending.may_end, Ending.room_ended, Following.alike_next_at, ForkSteps.forks_stay}
use Rattle.scope_index.proofs.index.RealmIndex.finish.Goals as goal

pub scope_of-scope-requires : goal.scope_of-scope-requires
scope_of-scope-requires g c =
    let ready = c.requires.0 in
    (can_finish ready.limits ready.history c.args.self.now.rows c.args.task c.args.end ready.legal ready.accepted ready.kept.rows).task

pub complete-requires-clause-row : goal.complete-requires-clause-row
complete-requires-clause-row g c = (may_end _ _ c.args.task c.args.end c.scope_of-scope.result c.args.place c.self.view_is c.requires c.scope_of-scope.ensures.row).row

pub complete-requires-clause-room : goal.complete-requires-clause-room
complete-requires-clause-room g c = (may_end _ _ c.args.task c.args.end c.scope_of-scope.result c.args.place c.self.view_is c.requires c.scope_of-scope.ensures.row).room

pub complete-requires-clause-few : goal.complete-requires-clause-few
complete-requires-clause-few g c = (may_end _ _ c.args.task c.args.end c.scope_of-scope.result c.args.place c.self.view_is c.requires c.scope_of-scope.ensures.row).few

pub complete-requires-clause-latest : goal.complete-requires-clause-latest
complete-requires-clause-latest g c = (may_end _ _ c.args.task c.args.end c.scope_of-scope.result c.args.place c.self.view_is c.requires c.scope_of-scope.ensures.row).latest

pub finish-requires : goal.finish-requires
finish-requires g c =
    let ready = (subst (λ t. IsReadyAt t (Finish c.args.task c.args.end) c.args.place) (sym c.self.view_is) c.requires).0 in
    can_finish ready.limits ready.history c.self.inside.rows c.args.task c.args.end ready.legal ready.accepted ready.kept.rows

pub returns : goal.returns
returns g c =
    let old : IndexTable = record { rows = c.self.inside.rows; cancels = c.self.inside.cancels; envs = c.self.inside.envs; forks = c.self.inside.forks; deadlines = c.self.inside.deadlines } in
    let new : IndexTable = record { rows = c.finish.new.self; cancels = c.complete.new.cancels; envs = c.self.inside.envs; forks = c.self.inside.forks; deadlines = c.self.inside.deadlines } in
    let scope : c.scope_of-scope.result ≡ scope_of old.rows c.args.task = c.scope_of-scope.ensures.row ∙ ap (λ (t : IndexTable). scope_of t.rows c.args.task) (sym c.self.view_is) in
    subst (λ t. HasAppliedAt t (Finish c.args.task c.args.end) c.args.place new) c.self.view_is
    (λ L h legal ok kept at.
    let whole = subst (IsIndexOf h) c.self.view_is kept in
    let ends = ends_in L h old c.args.task c.args.end c.scope_of-scope.result legal ok kept scope in
    let cancels = cancels_ended L h c.args.task c.args.end c.scope_of-scope.result c.args.place old new.cancels legal kept ends at c.complete.ensures in
    record {
      rows = c.finish.ensures.agrees L h legal ok kept.rows (c.is_cancelled-cancelled.ensures L h legal whole ∙ ap (is_cancelled h) scope);
      cancels = cancels;
      envs = envs_stay h (Finish c.args.task c.args.end) old.envs refl kept.envs;
      forks = forks_stay h (Finish c.args.task c.args.end) old.forks refl kept.forks;
      deadlines = deadlines_stay h (Finish c.args.task c.args.end) old.deadlines refl kept.deadlines;
      room = room_ended h c.args.task c.args.end c.scope_of-scope.result c.args.place old.cancels new.cancels kept.room (cancels.numbered ∙ sym kept.cancels.numbered) c.complete.ensures;
    })

pub invariant_of-self : goal.invariant_of-self
invariant_of-self g c =
    let new : IndexTable = record { rows = c.finish.new.self; cancels = c.complete.new.cancels; envs = c.self.inside.envs; forks = c.self.inside.forks; deadlines = c.self.inside.deadlines } in
    alike_next_at c.args.self.now new (Finish c.args.task c.args.end) c.args.place c.requires (returns g c)

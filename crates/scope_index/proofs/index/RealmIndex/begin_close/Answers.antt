use Rattle.scope_index.specs.{BeginClose, HasAppliedAt, IndexTable, IsReadyAt}
use Rattle.scope_index.proofs.Words.{◌∙◌, can_begin_close, deadlines_stay, envs_stay, refl, subst, sym}
use Rattle.scope_index.proofs.{Following.alike_next_at, Following.room_stays, ForkSteps.forks_stay}
use Rattle.scope_index.proofs.index.RealmIndex.begin_close.Goals as goal

pub cancel_covered-requires : goal.cancel_covered-requires
cancel_covered-requires c =
    let ready = subst (λ t. IsReadyAt t (BeginClose c.args.actor c.args.scope) c.args.place) (sym c.self.view_is) c.requires in
    let it = ready.0 in
    record {
      limits = it.limits;
      history = it.history;
      actor = c.args.actor;
      legal = it.legal;
      accepted = it.accepted;
      told_rows = it.kept.rows;
      told_cancels = it.kept.cancels;
      first = c.innermost-from.ensures.agrees it.limits it.history it.legal it.kept.rows;
      at = ready.1;
    }

pub begin_close-requires : goal.begin_close-requires
begin_close-requires c =
    let ready = (subst (λ t. IsReadyAt t (BeginClose c.args.actor c.args.scope) c.args.place) (sym c.self.view_is) c.requires).0 in
    can_begin_close ready.limits ready.history c.self.inside.rows c.args.actor c.args.scope ready.legal ready.accepted ready.kept.rows

pub returns : goal.returns
returns c =
    let old : IndexTable = record { rows = c.self.inside.rows; cancels = c.self.inside.cancels; envs = c.self.inside.envs; forks = c.self.inside.forks; deadlines = c.self.inside.deadlines } in
    let new : IndexTable = record { rows = c.begin_close.new.self; cancels = c.cancel_covered.new.cancels; envs = c.self.inside.envs; forks = c.self.inside.forks; deadlines = c.self.inside.deadlines } in
    subst (λ t. HasAppliedAt t (BeginClose c.args.actor c.args.scope) c.args.place new) c.self.view_is
    (λ L h legal ok kept at.
    let cancels = c.cancel_covered.ensures.followed L h c.args.actor legal ok kept.rows kept.cancels (c.innermost-from.ensures.agrees L h legal kept.rows) at in
    record {
      rows = c.begin_close.ensures.agrees L h legal ok kept.rows;
      cancels = cancels;
      envs = envs_stay h (BeginClose c.args.actor c.args.scope) old.envs refl kept.envs;
      forks = forks_stay h (BeginClose c.args.actor c.args.scope) old.forks refl kept.forks;
      deadlines = deadlines_stay h (BeginClose c.args.actor c.args.scope) old.deadlines refl kept.deadlines;
      room = room_stays h (BeginClose c.args.actor c.args.scope) old.cancels new.cancels kept.room (cancels.numbered ∙ sym kept.cancels.numbered) c.cancel_covered.ensures.accounts (λ s. refl);
    })

pub invariant_of-self : goal.invariant_of-self
invariant_of-self c =
    let new : IndexTable = record { rows = c.begin_close.new.self; cancels = c.cancel_covered.new.cancels; envs = c.self.inside.envs; forks = c.self.inside.forks; deadlines = c.self.inside.deadlines } in
    alike_next_at c.args.self.now new (BeginClose c.args.actor c.args.scope) c.args.place c.requires (returns c)

use Rattle.std.proofs.Common.{[], ◌∙◌, ◌≡◌, ap, arith, subst, sym}
use Rattle.scope_index.specs.{AreEnvsOf, IndexTable, Origin, base_of, tasks}
use Rattle.scope_index.proofs.Alike.{alike}
use Rattle.scope_index.proofs.index.RealmIndex.reset.Goals as goal

-- main's environment is the one that the history leaves
envs_left : (c : goal.After-reset-5) → AreEnvsOf (record { base = c.args.base.now; events = [] }) c.reset-2.new.self
unfolding base_of
envs_left c =
    let h = c.requires.0 in
    let is = c.requires.2 in
    let count : c.tasks-2.result ≡ tasks h = c.tasks-2.ensures ∙ ap (λ (o : Origin). o.tasks) is in
    subst (λ (o : Origin). AreEnvsOf (record { base = o; events = [] }) c.reset-2.new.self) (sym is) (c.reset-2.ensures.agrees h (subst (λ (k : IndexTable). AreEnvsOf h k.envs) (sym c.self.view_is) c.requires.1.envs) count)

pub invariant_of-self : goal.invariant_of-self
invariant_of-self c =
    let base = c.args.base.now in
    alike (record { base = base; events = [] }) c.reset.new.self c.reset-3.new.self c.reset-2.new.self c.reset-4.new.self c.reset-5.new.self
    (c.reset.ensures.agrees base (sym c.scopes.ensures) (sym c.tasks.ensures)) (c.reset-3.ensures base (sym c.scopes-2.ensures) (sym c.moment.ensures)) (envs_left c) (c.reset-4.ensures.agrees base (sym c.scopes-3.ensures)) (c.reset-5.ensures.agrees base (sym c.scopes-4.ensures))

pub returns : goal.returns
returns c =
    let base = c.args.base.now in
    record {
      rows = c.reset.ensures.agrees base (sym c.scopes.ensures) (sym c.tasks.ensures);
      cancels = c.reset-3.ensures base (sym c.scopes-2.ensures) (sym c.moment.ensures);
      envs = envs_left c;
      forks = c.reset-4.ensures.agrees base (sym c.scopes-3.ensures);
      deadlines = c.reset-5.ensures.agrees base (sym c.scopes-4.ensures);
      room = λ i a at listed. omega arith;
    }

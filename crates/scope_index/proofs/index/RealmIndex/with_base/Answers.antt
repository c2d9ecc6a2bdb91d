use Rattle.scope_index.proofs.Words.{[], arith, sym}
use Rattle.scope_index.proofs.Alike.{alike}
use Rattle.scope_index.proofs.index.RealmIndex.with_base.Goals as goal

pub invariant_of-result : goal.invariant_of-result
invariant_of-result c =
    let base = c.args.base.now in
    alike (record { base = base; events = [] }) c.with_base.result c.new.result c.in_ok-with_base.field-0 c.new-2.result c.new-3.result
    (c.with_base.ensures.agrees base (sym c.scopes.ensures) (sym c.tasks.ensures)) (c.new.ensures base (sym c.scopes-2.ensures) (sym c.moment.ensures)) c.in_ok-with_base.ensures.agrees (c.new-2.ensures.agrees base (sym c.scopes-3.ensures)) (c.new-3.ensures.agrees base (sym c.scopes-4.ensures))

pub returns : goal.returns
returns c =
    let base = c.args.base.now in
    record {
      rows = c.with_base.ensures.agrees base (sym c.scopes.ensures) (sym c.tasks.ensures);
      cancels = c.new.ensures base (sym c.scopes-2.ensures) (sym c.moment.ensures);
      envs = c.in_ok-with_base.ensures.agrees;
      forks = c.new-2.ensures.agrees base (sym c.scopes-3.ensures);
      deadlines = c.new-3.ensures.agrees base (sym c.scopes-4.ensures);
      room = λ i a at listed. omega arith;
    }

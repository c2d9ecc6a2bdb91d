use Rattle.std.proofs.Common.{[], ◌∙◌, ◌≡◌, ap, arith, length}
use Rattle.scope_journal.specs.{EventTable.EventTable}
use Rattle.scope_journal.proofs.Keeping.{kept_base}
use Rattle.scope_journal.proofs.journal.Journal.with_base.Goals as goal

pub invariant_of-result : goal.invariant_of-result
invariant_of-result c =
    let b = c.args.base in
    let pairs : c.binds-pairs.result.now ≡ b.binds = c.binds-pairs.ensures in
    let count = ap length pairs in
    let none : c.reserve.new.self.events ≡ [] = c.reserve.ensures.kept.events ∙ ap (λ (t : EventTable). t.events) c.new-events.ensures in (
      rw (none, pairs)
          (kept_base c.args.limits b _ (omega arith) (omega (arith, c.scopes.ensures)) (omega (arith, c.tasks.ensures)) (omega arith)),
      record { room = c.in-Ok.ensures.room; spare = omega arith },
    )

use Rattle.scope_journal.specs.{the_start}
use Rattle.scope_journal.proofs.Words.{arith}
use Rattle.scope_journal.proofs.Keeping.{kept_base}
use Rattle.scope_journal.proofs.journal.Journal.new.Goals as goal

pub invariant_of-result : goal.invariant_of-result
invariant_of-result c = rw (c.empty.ensures, c.new.ensures) (kept_base c.args.limits the_start _ (omega arith) (omega arith) (omega arith) (omega arith), record { room = omega arith; spare = omega arith })

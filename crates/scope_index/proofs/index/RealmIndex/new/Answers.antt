use Rattle.scope_index.specs.{the_start}
use Rattle.scope_index.proofs.Words.{[], arith, refl}
use Rattle.scope_index.proofs.Alike.{alike}
use Rattle.scope_index.proofs.index.RealmIndex.new.Goals as goal

pub invariant_of-result : goal.invariant_of-result
invariant_of-result c =
    alike (record { base = the_start; events = [] }) c.new.result c.new-2.result c.new-3.result c.new-4.result c.new-5.result (c.new.ensures.agrees the_start refl refl) (c.new-2.ensures the_start refl refl) c.new-3.ensures.agrees (c.new-4.ensures.agrees the_start refl) (c.new-5.ensures.agrees the_start refl)

pub returns : goal.returns
returns c = record { rows = c.new.ensures.agrees the_start refl refl; cancels = c.new-2.ensures the_start refl refl; envs = c.new-3.ensures.agrees; forks = c.new-4.ensures.agrees the_start refl; deadlines = c.new-5.ensures.agrees the_start refl; room = λ i a at listed. omega arith }

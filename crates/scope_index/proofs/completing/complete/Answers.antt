use Rattle.scope_index.proofs.Words.{false, refl, true}
use Rattle.scope_index.proofs.Counting.{completed_so, few_counted}
use Rattle.scope_index.proofs.completing.complete.Goals as goal

pub fires_by-requires : goal.fires_by-requires
fires_by-requires g c = record { few = few_counted c.args.cancels.now c.count.new.self c.args.scope c.args.done c.account.result.now c.count.ensures c.account.ensures c.requires.few }

pub returns-then-fires_by : goal.returns-then-fires_by
returns-then-fires_by g c =
    completed_so c.args.cancels.now c.count.new.self _ c.args.scope _ c.args.done c.account.result.now true c.fires_by.result c.count.ensures c.account.ensures c.fires_by.ensures c.if-fires_by.true c.cancel.ensures

pub returns-else-fires_by : goal.returns-else-fires_by
returns-else-fires_by g c =
    completed_so c.args.cancels.now c.count.new.self _ c.args.scope _ c.args.done c.account.result.now false c.fires_by.result c.count.ensures c.account.ensures c.fires_by.ensures c.if-fires_by.false refl

-- One key more of a scope.
use Rattle.std.specs.Prelude.{◌+◌}
use Rattle.run_picture.specs.{length, unwrap_or}
use Rattle.run_picture.proofs.Lemmas.{◌∙◌, ap, arith}
use Rattle.run_picture.proofs.{Existing.entry_there, Placing.keys_more, Placing.scope_sooner}
use Rattle.run_picture.proofs.placed.keys_of.Goals as goal

pub loop-index-preserved : goal.loop-index-preserved
loop-index-preserved c =
    let columns = c.args.columns.now in
    let i = c.loop-index.index in
    let row = entry_there columns.scopes.items i (omega arith) in
    let key = c.unwrap_or-in-loop-index.result in
    let it = scope_sooner columns i c.above_scope.result row.0 key (c.above_scope.ensures row.0 row.1) row.1 (c.unwrap_or-in-loop-index.ensures ∙ ap (unwrap_or c.above_scope.result) c.requires.count) in
    keys_more columns c.loop-index.keys.items c.push-in-loop-index.new.self.items (length columns.tasks.items + i) _ key c.loop-index.invariant c.in_ok-push-2.ensures.items (omega arith) it.0 it.1

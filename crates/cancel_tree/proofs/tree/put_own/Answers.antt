-- The first own cancel is put into the scope's row.
use Rattle.cancel_tree.proofs.ColumnLaws.{own_put}
use Rattle.cancel_tree.proofs.tree.put_own.Goals as goal

pub returns : goal.returns
returns c = own_put c.args.nodes.now.items c.args.scope c.index_mut.result.now c.args.first_cancel c.requires.added c.index_mut.ensures.value c.requires.none

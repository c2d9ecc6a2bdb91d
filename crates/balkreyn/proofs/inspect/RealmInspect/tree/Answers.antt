use Rattle.balkreyn.proofs.Shown.{seen_so}
use Rattle.balkreyn.proofs.inspect.RealmInspect.tree.Goals as goal

pub returns : goal.returns
returns g c = seen_so _ _ _ c.tree_in.ensures c.look_from_outside.ensures

use Rattle.balkreyn.proofs.Shown.{seen_so}
use Rattle.balkreyn.proofs.inspect.RealmInspect.dump.Goals as goal

pub returns : goal.returns
returns g c = seen_so _ _ _ c.dump_in.ensures c.look_from_outside.ensures

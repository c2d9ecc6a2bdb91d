use Rattle.std.proofs.Common.{◌≡◌, false, refl, true}
use Rattle.job_runner.specs.{is_name}
use Rattle.job_runner.proofs.ending.left_open.Goals as goal

-- the text may be a name
pub unreachable-requires : goal.unreachable-requires
unfolding is_name
unreachable-requires c = let named : false ≡ true = c.in-None.ensures.named.1 refl in cc

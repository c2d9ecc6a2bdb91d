use Rattle.std.proofs.Common.{◌∙◌, ◌≡◌, ap, subst}
use Rattle.realm_core.specs.{KeeperValue, TableId, Tied, starting, the_start}
use Rattle.realm_core.proofs.Steps.{tied_at_start}
use Rattle.realm_core.proofs.state.RealmCore.new.Goals as goal

pub invariant_of-core : goal.invariant_of-core
invariant_of-core g c =
    let keeper = c.begin-keeper.ensures.keeper in
    let named : c.begin-keeper.result.0.table ≡ g.N.RealmName.table = ap (λ (k : KeeperValue). k.table) keeper ∙ c.requires.named in
    rw (c.over.ensures, c.new.ensures) (subst (λ (t : TableId). Tied t (starting c.args.limits the_start) c.begin-keeper.result.0) named (tied_at_start c.args.limits c.begin-keeper.result.0 (ap (λ (k : KeeperValue). k.limits) keeper) (ap (λ (k : KeeperValue). k.steps) keeper)))

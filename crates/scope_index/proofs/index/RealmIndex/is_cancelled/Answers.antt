use Rattle.scope_index.specs.{IsIndexOf}
use Rattle.scope_index.proofs.Words.{subst, sym}
use Rattle.scope_index.proofs.NeverOpened.{uncancelled}
use Rattle.scope_index.proofs.index.RealmIndex.is_cancelled.Goals as goal

pub returns-in-None : goal.returns-in-None
returns-in-None c = λ L h legal kept. sym (uncancelled h c.args.scope (c.in-None.ensures.agrees h (subst (IsIndexOf h) (sym c.self.view_is) kept).rows))

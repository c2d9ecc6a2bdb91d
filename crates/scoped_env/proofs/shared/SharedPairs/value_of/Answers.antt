-- No pair has the key.
use Rattle.scoped_env.specs.{bound_to, pairs_of}
use Rattle.scoped_env.proofs.Words.{◌∙◌, ap, sym}
use Rattle.scoped_env.proofs.Indexing.{none_bound}
use Rattle.scoped_env.proofs.shared.SharedPairs.value_of.Goals as goal

pub returns-in-Empty : goal.returns-in-Empty
returns-in-Empty c =
    sym (ap (bound_to c.args.key.now) (sym c.self.view_is ∙ ap pairs_of c.in-Empty.is) ∙ none_bound c.args.key.now)

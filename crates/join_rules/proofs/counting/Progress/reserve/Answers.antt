-- The joiner stays.
use Rattle.join_rules.proofs.Words.{◌∙◌, sym}
use Rattle.join_rules.proofs.counting.Progress.reserve.Goals as goal

pub invariant_of-self : goal.invariant_of-self
invariant_of-self g c = record {
  listed = c.args.self.now.listed ∙ sym c.reserve.ensures.kept.has_closure;
  ruled = λ stored is. c.reserve.ensures.kept.policy ∙ c.args.self.now.ruled stored is;
}

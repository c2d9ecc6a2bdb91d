-- The new account stands for the list with one completion more, and answers for it.
use Rattle.std.proofs.Common.{[], ◌++◌, ◌∙◌, ◌∷◌, ap, sym}
use Rattle.join_rules.specs.{fires}
use Rattle.join_rules.proofs.StandingLemmas.{stands-push}
use Rattle.join_rules.proofs.counting.Progress.completed.Goals as goal

pub returns-clause-stands : goal.returns-clause-stands
returns-clause-stands g c = λ list stands.
    stands-push _ _ list _ c.in_ok-count.ensures.totals c.in_ok-count.ensures.seen c.count.ensures.joiner stands

pub returns-clause-fires : goal.returns-clause-fires
returns-clause-fires g c = λ list stands.
    let stands_on = stands-push _ _ list _ c.in_ok-count.ensures.totals c.in_ok-count.ensures.seen c.count.ensures.joiner stands in
    c.fires.ensures _ stands_on ∙ ap (λ policy. fires policy (list ++ c.args.done ∷ [])) c.count.ensures.joiner.policy

pub invariant_of-self : goal.invariant_of-self
invariant_of-self g c = record {
  listed = c.args.self.now.listed ∙ sym c.count.ensures.joiner.has_closure;
  ruled = λ stored is. c.count.ensures.joiner.policy ∙ c.args.self.now.ruled stored is;
}

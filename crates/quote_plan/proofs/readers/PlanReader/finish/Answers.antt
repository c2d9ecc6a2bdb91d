use Rattle.std.specs.Prelude.{◌==◌}
use Rattle.quote_plan.specs.{HasTaken, length}
use Rattle.quote_plan.proofs.Words.{◌∙◌, ap, subst, sym}
use Rattle.quote_plan.proofs.Passing.{ends_cut, ends_well, ends_without_mode, no_bytes}
use Rattle.quote_plan.proofs.readers.PlanReader.finish.Goals as goal

pub returns-then-not-is_empty : goal.returns-then-not-is_empty
returns-then-not-is_empty c = λ bytes taken.
    ends_cut _ bytes (subst (λ p. HasTaken p bytes) (sym c.self.view_is) taken) (ap (λ b. length b == 0) (sym c.as_slice.ensures.value) ∙ (sym c.is_empty.ensures ∙ c.if-not-is_empty.true))

pub returns-in-Some : goal.returns-in-Some
returns-in-Some c = λ bytes taken.
    ends_well _ bytes (subst (λ p. HasTaken p bytes) (sym c.self.view_is) taken) c.in-Some.plan (sym c.as_slice.ensures.value ∙ no_bytes c.as_slice.result.now (sym c.is_empty.ensures ∙ c.if-not-is_empty.false)) c.in-Some.ensures.0 c.in-Some.ensures.1

pub returns : goal.returns
returns c = λ bytes taken.
    ends_without_mode _ bytes (subst (λ p. HasTaken p bytes) (sym c.self.view_is) taken) (sym c.as_slice.ensures.value ∙ no_bytes c.as_slice.result.now (sym c.is_empty.ensures ∙ c.if-not-is_empty.false)) c.in-None.ensures

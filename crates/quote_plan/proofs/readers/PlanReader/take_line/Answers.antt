use Rattle.std.specs.Prelude.{◌++◌, ◌≡◌}
use Rattle.quote_plan.specs.{[], HasTaken, StandsFor, same}
use Rattle.quote_plan.proofs.Words.{◌∙◌, IfErr-weaker, ap, on_ok_weaker, subst, sym}
use Rattle.quote_plan.proofs.Passing.{line_ends, line_is_bad, line_is_none, line_is_plain, no_bytes}
use Rattle.quote_plan.proofs.readers.PlanReader.take_line.Goals as goal

pub returns-then-is_empty-clause-taken : goal.returns-then-is_empty-clause-taken
returns-then-is_empty-clause-taken c = λ bytes taken.
    (let here = subst (λ p. HasTaken p bytes) (sym c.self.view_is) taken in
    let none : c.self.inside.begun.items ≡ [] = sym c.as_slice.ensures.value ∙ no_bytes c.as_slice.result.now (sym c.is_empty.ensures ∙ c.if-is_empty.true) in
    let stands : StandsFor c.args.text.now (here.line ++ c.args.text.now) = same (ap (λ l. l ++ c.args.text.now) (sym (line_is_none _ bytes here none))) in
    on_ok_weaker c.pass.result (λ passed. line_ends _ bytes here _ c.args.text.now passed none)
    (c.pass.ensures.passed here.front (here.line ++ c.args.text.now) here.passed stands (line_is_plain _ bytes here c.args.text.now c.requires)))

pub returns-clause-taken : goal.returns-clause-taken
returns-clause-taken c = λ bytes taken.
    (let here = subst (λ p. HasTaken p bytes) (sym c.self.view_is) taken in
    let stands : StandsFor c.deref.result.now (here.line ++ c.args.text.now) = subst (λ k. StandsFor k (here.line ++ c.args.text.now)) (sym c.deref.ensures.value) (c.in-Ok.ensures here.line here.kept) in
    on_ok_weaker c.pass-passed.result (λ passed. line_ends _ bytes here _ c.args.text.now passed c.clear.ensures.items)
    (c.pass-passed.ensures.passed here.front (here.line ++ c.args.text.now) here.passed stands (line_is_plain _ bytes here c.args.text.now c.requires)))

pub returns-clause-bad : goal.returns-clause-bad
returns-clause-bad c = λ bytes taken more.
    (let here = subst (λ p. HasTaken p bytes) (sym c.self.view_is) taken in
    let stands : StandsFor c.deref.result.now (here.line ++ c.args.text.now) = subst (λ k. StandsFor k (here.line ++ c.args.text.now)) (sym c.deref.ensures.value) (c.in-Ok.ensures here.line here.kept) in
    IfErr-weaker c.pass-passed.result _ _ (λ fault names. line_is_bad _ bytes here c.args.text.now more fault names)
    (c.pass-passed.ensures.bad here.front (here.line ++ c.args.text.now) here.passed stands (line_is_plain _ bytes here c.args.text.now c.requires) more))

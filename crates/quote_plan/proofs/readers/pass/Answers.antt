use Rattle.quote_plan.specs.{Ok, ReadingValue, may_come, why_of, with_line}
use Rattle.quote_plan.proofs.Words.{◌∙◌, ap, rules, sym}
use Rattle.quote_plan.proofs.{Passing.names_line, Passing.passes, Standing.bad_alike, Standing.says_same}
use Rattle.quote_plan.proofs.readers.pass.Goals as goal

pub returns-in-Ok-false-clause-bad : goal.returns-in-Ok-false-clause-bad
returns-in-Ok-false-clause-bad c = λ front line passed stands plain more.
    (let left = c.in-Ok-false.ensures.left (ap Ok c.in-Ok-false.field-0-test) in
    let names = names_line front _ _ passed line plain more (ap (may_come c.args.reading.now) (sym (says_same c.args.text.now line stands) ∙ sym c.plan_line.ensures) ∙ (sym c.in-Ok-false.ensures.tested ∙ c.in-Ok-false.field-0-test)) in
    (names.0, c.why-why.ensures ∙ (ap (λ (r : ReadingValue). why_of r.modes r.offers c.args.text.now) left ∙ (bad_alike _ _ c.args.text.now line stands ∙ names.1))))

pub returns-in-Some-clause-passed : goal.returns-in-Some-clause-passed
returns-in-Some-clause-passed c = λ front line passed stands plain.
    (let good = c.in-Ok-true.field-0-test in
    passes front _ _ passed line plain _ _ (ap (may_come c.args.reading.now) (sym (says_same c.args.text.now line stands) ∙ sym c.plan_line.ensures) ∙ (sym c.in-Ok-true.ensures.tested ∙ good))
    (c.in-Ok-true.ensures.taken (ap Ok good) ∙ ap (with_line c.args.reading.now) (c.plan_line.ensures ∙ says_same c.args.text.now line stands)) (search rules))

use Rattle.std.specs.Prelude.{◌∷◌, ◌≡◌}
use Rattle.quote_plan.specs.{[], BadWord, Ok, ReadingValue, lines_of, why_of}
use Rattle.quote_plan.proofs.Words.{◌∙◌, ap, arith, refl, sym}
use Rattle.quote_plan.proofs.Causes.{cut_on, last_cut, last_none, nothing_cut, why_here, why_there}
use Rattle.quote_plan.proofs.Progress.{all_said, cut_line, first_bad, goes_on, next_line, no_line, no_mode, nothing_read, refused}
use Rattle.quote_plan.proofs.reading.read_plan.Goals as goal

pub loop-text-init : goal.loop-text-init
loop-text-init c = record {
  read = nothing_read c.args.bytes.now _ c.new-reading.ensures.modes c.new-reading.ensures.offers;
  cut = nothing_cut c.args.bytes.now;
  within = omega arith;
}

pub loop-text-preserved : goal.loop-text-preserved
loop-text-preserved c =
    let others = c.in-Some.others.now in
    let split : lines_of c.loop-text.rest.now ≡ c.plan_line.result ∷ lines_of others =
    next_line c.loop-text.rest.now c.in-Some.text.now others c.in-Some.ensures.pieces ∙ ap (λ s. s ∷ lines_of others) (sym c.plan_line.ensures) in
    let took = c.in-Ok-true.ensures in
    let good = c.in-Ok-true.field-0-test in
    record {
      read =
          goes_on c.args.bytes.now c.loop-text.rest.now c.loop-text.line c.loop-text.reading c.loop-text.invariant.read c.plan_line.result (lines_of others) split others _ refl (sym took.tested ∙ good) (took.taken (ap Ok good));
      cut = cut_on c.args.bytes.now c.loop-text.rest.now c.loop-text.line c.loop-text.invariant.cut c.in-Some.text.now others c.in-Some.ensures.pieces;
      within = omega (arith, c.loop-text.invariant.within, c.in-Some.ensures.shorter);
    }

pub returns-in-Ok-false-clause-read : goal.returns-in-Ok-false-clause-read
returns-in-Ok-false-clause-read c =
    let others = c.in-Some.others.now in
    let split : lines_of c.loop-text.rest.now ≡ c.plan_line.result ∷ lines_of others =
    next_line c.loop-text.rest.now c.in-Some.text.now others c.in-Some.ensures.pieces ∙ ap (λ s. s ∷ lines_of others) (sym c.plan_line.ensures) in
    first_bad c.args.bytes.now c.loop-text.rest.now c.loop-text.line c.loop-text.reading c.loop-text.invariant.read c.plan_line.result (lines_of others) split (sym c.in-Ok-false.ensures.tested ∙ c.in-Ok-false.field-0-test)

pub returns-in-Err-clause-read : goal.returns-in-Err-clause-read
returns-in-Err-clause-read c =
    let others = c.in-Some.others.now in
    let split : lines_of c.loop-text.rest.now ≡ c.plan_line.result ∷ lines_of others =
    next_line c.loop-text.rest.now c.in-Some.text.now others c.in-Some.ensures.pieces ∙ ap (λ s. s ∷ lines_of others) (sym c.plan_line.ensures) in
    refused c.args.bytes.now c.loop-text.rest.now c.loop-text.line c.loop-text.reading c.loop-text.invariant.read c.plan_line.result (lines_of others) split c.in-Err.ensures.refused.0 c.in-Err.ensures.refused.1

pub returns-then-not-is_empty-clause-read : goal.returns-then-not-is_empty-clause-read
returns-then-not-is_empty-clause-read c =
    let rest = c.loop-text.rest.now in
    let cut = cut_line rest c.in_default.ensures.pieces (sym c.is_empty.ensures ∙ c.if-not-is_empty.true) in
    first_bad c.args.bytes.now rest c.loop-text.line c.loop-text.reading c.loop-text.invariant.read BadWord [] cut refl

pub returns-in-Some-plan-clause-read : goal.returns-in-Some-plan-clause-read
returns-in-Some-plan-clause-read c =
    let rest = c.loop-text.rest.now in
    let none = no_line rest c.in_default.ensures.pieces (sym c.is_empty.ensures ∙ c.if-not-is_empty.false) in
    let said = c.in-Some-plan.ensures in
    all_said c.args.bytes.now rest c.loop-text.line c.loop-text.reading c.loop-text.invariant.read none c.in-Some-plan.plan said.0 said.1

pub returns-in-None-clause-read : goal.returns-in-None-clause-read
returns-in-None-clause-read c =
    let rest = c.loop-text.rest.now in
    let none = no_line rest c.in_default.ensures.pieces (sym c.is_empty.ensures ∙ c.if-not-is_empty.false) in
    no_mode c.args.bytes.now rest c.loop-text.line c.loop-text.reading c.loop-text.invariant.read none c.in-None.ensures

pub returns-in-Ok-false-clause-why : goal.returns-in-Ok-false-clause-why
returns-in-Ok-false-clause-why c =
    let left = c.in-Ok-false.ensures.left (ap Ok c.in-Ok-false.field-0-test) in
    c.why-why.ensures ∙ (ap (λ (r : ReadingValue). why_of r.modes r.offers c.in-Some.text.now) left ∙ why_here c.args.bytes.now c.loop-text.rest.now c.loop-text.line c.loop-text.reading c.loop-text.invariant.read c.loop-text.invariant.cut c.in-Some.text.now c.in-Some.others.now c.in-Some.ensures.pieces)

pub returns-then-not-is_empty-clause-why : goal.returns-then-not-is_empty-clause-why
returns-then-not-is_empty-clause-why c =
    let rest = c.loop-text.rest.now in
    sym (last_cut rest (sym c.is_empty.ensures ∙ c.if-not-is_empty.true)) ∙ why_there c.args.bytes.now rest c.loop-text.line c.loop-text.reading c.loop-text.invariant.read c.loop-text.invariant.cut c.in_default.ensures.pieces

pub returns-in-None-clause-why : goal.returns-in-None-clause-why
returns-in-None-clause-why c =
    let rest = c.loop-text.rest.now in
    sym (last_none rest (sym c.is_empty.ensures ∙ c.if-not-is_empty.false)) ∙ why_there c.args.bytes.now rest c.loop-text.line c.loop-text.reading c.loop-text.invariant.read c.loop-text.invariant.cut c.in_default.ensures.pieces

-- What is said of the word, once its end or a byte too many is met.
use Rattle.std.proofs.Common.{◌∙◌, ◌≡◌, ◌≢◌, arith, get_or, length, sym}
use Rattle.script_words.proofs.{DigitsAhead.no_digits, DigitsAhead.no_space_more, DigitsAhead.word_at_least, FieldSteps.first_space, Numerals.digits_of_more, Numerals.value_of_more}
use Rattle.script_words.proofs.numbers.digits_ahead.Goals as goal

pub returns-in_err-checked_mul-clause-none : goal.returns-in_err-checked_mul-clause-none
returns-in_err-checked_mul-clause-none c none all =
    let least = word_at_least c.args.text.now c.loop-index.index c.loop-index-test.true c.loop-index.invariant.2 c.if-is_ascii_digit.ensures.cases in
    grind arith

pub returns-in_err-value-clause-none : goal.returns-in_err-value-clause-none
returns-in_err-value-clause-none c none all =
    let least = word_at_least c.args.text.now c.loop-index.index c.loop-index-test.true c.loop-index.invariant.2 c.if-is_ascii_digit.ensures.cases in
    grind arith

pub returns-then-byte-eq32-clause-some : goal.returns-then-byte-eq32-clause-some
returns-then-byte-eq32-clause-some c =
    let place = first_space c.args.text.now c.loop-index.index (omega (arith, c.loop-index-test.true)) c.loop-index.invariant.2 (λ h. c.if-byte-eq32.true) in
    (rw (sym place) c.loop-index.invariant.0, rw (sym place) c.loop-index.invariant.1, place)

pub returns-else-byte-eq32-clause-none : goal.returns-else-byte-eq32-clause-none
returns-else-byte-eq32-clause-none c none all =
    let some = no_digits c.args.text.now c.loop-index.index c.loop-index-test.true c.loop-index.invariant.2 c.if-byte-eq32.false (sym c.if-is_ascii_digit.ensures.value) in
    absurd (cc)

pub loop-index-preserved : goal.loop-index-preserved
loop-index-preserved c =
    let more = value_of_more c.args.text.now c.loop-index.index c.loop-index-test.true c.if-is_ascii_digit.ensures.cases in
    let other : get_or c.args.text.now c.loop-index.index 0 ≢ 32 = grind (arith, c.if-is_ascii_digit.ensures.cases) in
    (digits_of_more c.args.text.now c.loop-index.index c.loop-index-test.true c.loop-index.invariant.0 (sym c.if-is_ascii_digit.ensures.value), grind arith, no_space_more c.args.text.now c.loop-index.index c.loop-index.invariant.2 other)

pub returns-clause-some : goal.returns-clause-some
returns-clause-some c =
    let ended : c.loop-index.index ≡ length c.args.text.now = grind arith in
    let place = first_space c.args.text.now c.loop-index.index (omega (arith, ended)) c.loop-index.invariant.2 (λ h. absurd (omega (arith, ended, h))) in
    (rw (sym place) c.loop-index.invariant.0, rw (sym place) c.loop-index.invariant.1, sym ended ∙ place)

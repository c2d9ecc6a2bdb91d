use Rattle.std.specs.Prelude.{◌≡◌}
use Rattle.command_line.specs.{ℕ, is_plain, true}
use Rattle.command_line.proofs.Words.{◌∙◌, arith, sym}
use Rattle.command_line.proofs.Numbers.{none_outside, none_read, not_plain, plain_within}
use Rattle.command_line.proofs.settings.plain_number.Goals as goal

pub returns-then-not-is_plain-clause-number : goal.returns-then-not-is_plain-clause-number
returns-then-not-is_plain-clause-number c = not_plain _ _ (sym c.is_plain.ensures ∙ c.if-not-is_plain.true)

pub returns-in-Ok-clause-number : goal.returns-in-Ok-clause-number
returns-in-Ok-clause-number c =
    let plain : is_plain c.args.text.now ≡ true = sym c.is_plain.ensures ∙ c.if-not-is_plain.false in
    plain_within _ _ plain ℕ c.in-Ok.number c.in-Ok.ensures.value.0 (omega arith) (omega arith)

pub returns-in_default-clause-number : goal.returns-in_default-clause-number
returns-in_default-clause-number c =
    let plain : is_plain c.args.text.now ≡ true = sym c.is_plain.ensures ∙ c.if-not-is_plain.false in
    none_outside _ _ plain ℕ c.in-Ok.number c.in-Ok.ensures.value.0 (λ low high. omega arith)

pub returns-in_default-2-clause-number : goal.returns-in_default-2-clause-number
returns-in_default-2-clause-number c =
    let plain : is_plain c.args.text.now ≡ true = sym c.is_plain.ensures ∙ c.if-not-is_plain.false in
    none_outside _ _ plain ℕ c.in-Ok.number c.in-Ok.ensures.value.0 (λ low high. omega arith)

pub returns-in_default-3-clause-number : goal.returns-in_default-3-clause-number
returns-in_default-3-clause-number c =
    let plain : is_plain c.args.text.now ≡ true = sym c.is_plain.ensures ∙ c.if-not-is_plain.false in
    none_read _ _ plain _ c.in_default.field-0 c.in_default.ensures.value.0 (omega arith)

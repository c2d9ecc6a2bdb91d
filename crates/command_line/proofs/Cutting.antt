-- What a text NAME=MS says.
use Rattle.std.specs.Prelude.{◌+◌, ◌≡◌}
use Rattle.command_line.specs.{[], ℕ, After, Bool, List, None, Option, Some, after_first, before_first, delay_said, false, greatest_of, is_equals, is_name, plain_number, position_or_len, true}
use Rattle.command_line.proofs.Words.{◌∙◌, Bor, IsSplitOnceResult, ap, arith, drop, drop_all, length, refl, split_once_first, sym}
use Rattle.command_line.proofs.Built.{same_either}

-- ---- if `split_once` cuts

module _ (text : List ℕ) (parts : Option (Bor (List ℕ) × Bor (List ℕ))) (split : IsSplitOnceResult 61 text parts) where
  pub whole : parts ≡ None → position_or_len is_equals text ≡ length text
  whole is = rw is at (split_once_first 61 text parts split (omega arith))

  pub cut : (part : Bor (List ℕ) × Bor (List ℕ)) → parts ≡ Some part → (part.0.now ≡ before_first is_equals text) × (part.1.now ≡ after_first is_equals text)
  cut part is = let at_first = rw is at (split_once_first 61 text parts split (omega arith)) in (at_first.1, at_first.2)

-- ---- what each part of the text comes to

module _ (text : List ℕ) where
  pub nothing_after : position_or_len is_equals text ≡ length text → after_first is_equals text ≡ []
  nothing_after none = ap (λ n. drop (n + 1) text) none ∙ drop_all (length text + 1) text (omega arith)

  no_number : plain_number (greatest_of After) (after_first is_equals text) ≡ None → delay_said text ≡ None
  unfolding delay_said
  no_number none = rw none (same_either (is_name (before_first is_equals text)) None)

  -- with no `=`
  pub uncut : position_or_len is_equals text ≡ length text → None ≡ delay_said text
  unfolding plain_number
  uncut none = sym (no_number (ap (plain_number (greatest_of After)) (nothing_after none)))

  module _ (name rest : List ℕ) (before : name ≡ before_first is_equals text) (after : rest ≡ after_first is_equals text) where
    pub unnamed : is_name name ≡ false → None ≡ delay_said text
    unfolding delay_said
    unnamed other = rw (sym (ap is_name before) ∙ other) refl

    pub unnumbered : None ≡ plain_number (greatest_of After) rest → None ≡ delay_said text
    unnumbered none = sym (no_number (ap (plain_number (greatest_of After)) (sym after) ∙ sym none))

    pub says : (millis : ℕ) → is_name name ≡ true → Some millis ≡ plain_number (greatest_of After) rest → Some (record { name = name; millis = millis }) ≡ delay_said text
    unfolding delay_said
    says millis named number = rw (← before, ← after, named, ← number) refl

pub not_named : (named : Bool) → (named ≡ true → false ≡ true) → named ≡ false
not_named true other = sym (other refl)
not_named false other = refl

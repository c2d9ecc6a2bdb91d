-- Numbers that are written plainly.
use Rattle.std.specs.Prelude.{◌&&◌, ◌<◌, ◌==◌, ◌^◌, ◌∷◌, ◌≡◌, ◌≤◌}
use Rattle.command_line.specs.{[], ℕ, AllDigits, Bool, IsNumeral, List, None, ParsesUnsigned, Some, digit_value, digits_value, false, is_digit, is_plain, list_all, nat_le}
use Rattle.command_line.specs.{not, plain_number, true, without_leading_plus}
use Rattle.command_line.proofs.Words.{◌∙◌, Err, Ok, ap, arith, both, cond, digit_value_digit, le-leb, leb-true, length, refl, subst, sym, true≢false, without_leading_plus_none}

is_low : (d : ℕ) → is_digit d ≡ true → digit_value d < 10
is_low d e =
    let range = both _ _ e in
    let low : 48 ≤ d = leb-true _ _ range.0 in
    let high : d ≤ 57 = leb-true _ _ range.1 in
    omega (arith, digit_value_digit d (low, high))

all_digits : (ds : List ℕ) → list_all is_digit ds ≡ true → AllDigits 10 ds
all_digits [] e = tt
all_digits (d ∷ ds) e = let parts = both _ _ e in (is_low d parts.0, all_digits ds parts.1)

no_plus : (d : ℕ) (ds : List ℕ) → is_digit d ≡ true → without_leading_plus (d ∷ ds) ≡ d ∷ ds
no_plus d ds e =
    let range = both _ _ e in
    let low : 48 ≤ d = leb-true _ _ range.0 in
    without_leading_plus_none (d ∷ ds) (λ plus. omega arith)

-- a plain text is a numeral with no sign
plain_numeral : (t : List ℕ) → is_plain t ≡ true → IsNumeral 10 t × (without_leading_plus t ≡ t)
plain_numeral [] e = absurd (true≢false (sym e))
plain_numeral (d ∷ ds) e =
    let some : 0 < length (d ∷ ds) = omega arith in
    let parts = both (not (d == 48)) (list_all is_digit (d ∷ ds)) e in
    let head = both (is_digit d) (list_all is_digit ds) parts.1 in
    ((some, all_digits (d ∷ ds) parts.1), no_plus d ds head.0)

not_above : (a b : ℕ) → (a ≤ b → ⊥) → nat_le a b ≡ false
not_above a b not_so = go (nat_le a b) refl
  where
    go : (x : Bool) → nat_le a b ≡ x → nat_le a b ≡ false
    go true e = absurd (not_so (leb-true a b e))
    go false e = e

module _ (greatest : ℕ) (t : List ℕ) where
  -- a text that is not plain says no number
  pub not_plain : is_plain t ≡ false → None ≡ plain_number greatest t
  unfolding plain_number
  not_plain e = rw e refl

  module _ (plain : is_plain t ≡ true) where
    outside : (1 ≤ digits_value 10 t → digits_value 10 t ≤ greatest → ⊥) → None ≡ plain_number greatest t
    unfolding plain_number
    outside not_so = rw plain (go (nat_le 1 (digits_value 10 t)) refl)
      where
        go : (x : Bool) → nat_le 1 (digits_value 10 t) ≡ x → None ≡ cond (x && nat_le (digits_value 10 t) greatest) (Some (digits_value 10 t)) None
        go true e = rw (not_above _ _ (not_so (leb-true _ _ e))) refl
        go false e = refl

    module _ (E : Type 0) where
      -- what `parse` read is the number, if it lies within
      read_is : (n : ℕ) → ParsesUnsigned {E = E} 32 10 t (Ok n) → n ≡ digits_value 10 t
      read_is n read = read.1 ∙ ap (digits_value 10) (plain_numeral t plain).1

      pub plain_within : (n : ℕ) → ParsesUnsigned {E = E} 32 10 t (Ok n) → 1 ≤ n → n ≤ greatest → Some n ≡ plain_number greatest t
      unfolding plain_number
      plain_within n read low high =
          let is = read_is n read in
          rw (← is, plain, le-leb 1 n low, le-leb n greatest high) refl

      pub none_outside : (n : ℕ) → ParsesUnsigned {E = E} 32 10 t (Ok n) → (1 ≤ n → n ≤ greatest → ⊥) → None ≡ plain_number greatest t
      none_outside n read not_so = outside (subst (λ m. 1 ≤ m → m ≤ greatest → ⊥) (read_is n read) not_so)

      -- what `parse` refused is too great
      pub none_read : (e : E) → ParsesUnsigned {E = E} 32 10 t (Err e) → greatest < 2 ^ 32 → None ≡ plain_number greatest t
      none_read e read low =
          let is = plain_numeral t plain in
          outside (λ one most. read (rw is.1 is.0, rw is.1 (omega arith)))

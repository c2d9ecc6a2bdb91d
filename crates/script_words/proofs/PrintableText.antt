-- The parts of a line are printable, and so is each line.
use Rattle.std.proofs.Common.{[], ℕ, ℤ, ◌%◌, ◌++◌, ◌/◌, ◌<◌, ◌==◌, ◌∷◌, ◌≡◌, List, arith, cond, false, negsuc, pos, refl, suc, take, true, zero}
use Rattle.script_words.specs.{Name, Num, Text, Value, both_true, decimal, digit_glyph, digits, digits_onto, flat_map, is_inner, is_name, is_printable, is_stored, list_all, signed_decimal, text_of, value_text}
use Rattle.script_words.proofs.Lemmas.{∥∥₁_elim, common_steps, list_all-append, nat_tests, props, stored_parts}

-- the bytes are all printable
abbrev pub Shows : List ℕ → Type 0
Shows bs = list_all is_printable bs ≡ true

pub both : (xs ys : List ℕ) → Shows xs → Shows ys → Shows (xs ++ ys)
both xs ys p q = rw (list_all-append is_printable xs ys) (both_true p q)

glyph_shows : (d : ℕ) → d < 10 → is_printable (digit_glyph false d) ≡ true
glyph_shows d h = grind (arith, nat_tests)

onto_shows : (k n : ℕ) (acc : List ℕ) → Shows acc → Shows (digits_onto k 10 false n acc)
onto_shows zero n acc h = h
onto_shows (suc k) n acc h =
    let glyph : is_printable (digit_glyph false (n % 10)) ≡ true = glyph_shows (n % 10) (omega arith) in
    let more : Shows (digit_glyph false (n % 10) ∷ acc) = both_true glyph h in
    elim (n / 10 == 0) as (λ b. Shows (cond b (digit_glyph false (n % 10) ∷ acc) (digits_onto k 10 false (n / 10) (digit_glyph false (n % 10) ∷ acc))))
    [ true ↦ more | false ↦ onto_shows k (n / 10) (digit_glyph false (n % 10) ∷ acc) more ]

pub decimal_shows : (n : ℕ) → Shows (decimal n)
unfolding digits
decimal_shows n = onto_shows 64 n [] refl

pub signed_shows : (z : ℤ) → Shows (signed_decimal z)
signed_shows (pos n) = decimal_shows n
signed_shows (negsuc n) = decimal_shows (suc n)

inner_shows : (b : ℕ) → is_inner b ≡ true → is_printable b ≡ true
inner_shows b h = grind (arith, nat_tests)

inner_text_shows : (bs : List ℕ) → list_all is_inner bs ≡ true → Shows bs
inner_text_shows [] h = refl
inner_text_shows (b ∷ bs) h =
    both_true (inner_shows b (grind (arith, common_steps))) (inner_text_shows bs (grind (arith, common_steps)))

is_name_shows : (bs : List ℕ) → is_name bs ≡ true → Shows bs
unfolding is_name
is_name_shows bs h = inner_text_shows bs (grind (arith, common_steps))

stored_shows : (len : ℕ) (bytes : List ℕ) → is_stored len bytes ≡ true → Shows (take len bytes)
stored_shows len bytes s = is_name_shows _ (stored_parts len bytes s).named

pub name_shows : (name : Name) → Shows (text_of name)
name_shows name =
    let test : IsProp (Shows (text_of name)) = hlevel props in
    ∥∥₁_elim name.stored test (stored_shows name.len name.bytes)

pub value_shows : (value : Value) → Shows (value_text value)
value_shows (Num number) = signed_shows number
value_shows (Text name) = name_shows name

pub each_shows : {X : Type 0} (text : X → List ℕ) → ((x : X) → Shows (text x)) → (xs : List X) → Shows (flat_map text xs)
each_shows text h [] = refl
each_shows text h (x ∷ xs) = both (text x) (flat_map text xs) (h x) (each_shows text h xs)

-- The bytes of a name are ASCII, and so UTF-8.
use Rattle.std.proofs.Common.{[], ℕ, ◌<◌, ◌∷◌, ◌≡◌, List, arith, get_or, suc, take, true, zero}
use Rattle.scope_rules.specs.{IsUtf8, Name, is_inner, is_name, list_all, text_of}
use Rattle.scope_rules.proofs.Words.{∥∥₁_elim, IsUtf8-from_ascii, common_steps, nat_tests, props}
use Rattle.scope_rules.proofs.StoredNames.{stored_parts}

inner_is_ascii : (b : ℕ) → is_inner b ≡ true → b < 128
inner_is_ascii b inner = grind (arith, nat_tests)

ascii_at : (bs : List ℕ) → list_all is_inner bs ≡ true → (i : ℕ) → get_or bs i 0 < 128
ascii_at [] inner i = omega arith
ascii_at (b ∷ bs) inner zero = inner_is_ascii b (grind (arith, common_steps))
ascii_at (b ∷ bs) inner (suc i) = ascii_at bs (grind (arith, common_steps)) i

named_inner : (bs : List ℕ) → is_name bs ≡ true → list_all is_inner bs ≡ true
unfolding is_name
named_inner bs named = grind (arith, common_steps)

inner : (name : Name) → list_all is_inner (text_of name) ≡ true
inner name =
    let one : IsProp (list_all is_inner (text_of name) ≡ true) = hlevel props in
    ∥∥₁_elim name.stored one (λ stored. named_inner (take name.len name.bytes) (stored_parts name.len name.bytes stored).named)

pub name_is_utf8 : (name : Name) → IsUtf8 (text_of name)
name_is_utf8 name = IsUtf8-from_ascii _ (ascii_at _ (inner name))

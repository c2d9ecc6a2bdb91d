-- Where the first line feed stands.
use Rattle.std.proofs.Common.{ℕ, ◌++◌, ◌+◌, ◌<◌, ◌∙◌, ◌∷◌, ◌≡◌, ◌≤◌, List, ap, arith, drop, false, get_or, length, sym, take, true}
use Rattle.scope_script.specs.{CutsLine, NoneBefore, Nowhere, Passes, has_feed, is_feed}
use Rattle.scope_script.proofs.Lemmas.{All-from_get_or, drop_more, get_or-take, length-take-le, list_any_none, nat_tests, take-append-drop}

not_feed : (b : ℕ) → (is_feed b ≡ true → ⊥) → is_feed b ≡ false
not_feed b other = grind (arith, nat_tests)

is_ten : (b : ℕ) → is_feed b ≡ true → b ≡ 10
is_ten b is = grind (arith, nat_tests)

-- no byte is one
pub no_feed : (bytes : List ℕ) → Nowhere (Passes is_feed bytes) 0 (length bytes) → has_feed bytes ≡ false
no_feed bytes nowhere =
    list_any_none is_feed bytes (All-from_get_or (λ b. is_feed b ≡ false) bytes 0 (λ k within. not_feed (get_or bytes k 0) (nowhere k (omega arith) within)))

-- nothing before the first one is one
none_before : (bytes : List ℕ) (n : ℕ) → n ≤ length bytes → Nowhere (Passes is_feed bytes) 0 n → has_feed (take n bytes) ≡ false
none_before bytes n within nowhere =
    no_feed (take n bytes) (λ k low high is.
    let below : k < n = omega (arith, high, length-take-le n bytes within) in
    nowhere k low below (ap is_feed (sym (get_or-take n bytes k 0 below)) ∙ is))

-- the line before the first one, and what comes after it
pub cut_at : (bytes : List ℕ) (n : ℕ) → NoneBefore (Passes is_feed bytes) 0 (length bytes) n → is_feed (get_or bytes n 0) ≡ true → CutsLine bytes (take n bytes) (drop (n + 1) bytes)
cut_at bytes n first is =
    let after : drop n bytes ≡ 10 ∷ drop (n + 1) bytes = drop_more bytes n 0 first.high ∙ ap (λ b. b ∷ drop (n + 1) bytes) (is_ten (get_or bytes n 0) is) in
    record {
      whole = sym (take-append-drop n bytes) ∙ ap (λ rest. take n bytes ++ rest) after;
      unended = none_before bytes n (omega (arith, first.high)) first.before;
    }

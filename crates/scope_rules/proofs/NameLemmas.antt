-- A name is known by its text.
use Rattle.std.proofs.Common.{ℕ, ◌++◌, ◌-◌, ◌∙◌, ◌≡◌, IsTrue, List, ap, arith, drop, length, replicate, subst, sym, take}
use Rattle.scope_rules.specs.{Name, is_stored, text_of}
use Rattle.scope_rules.proofs.Words.{∥∥₁_elim, length-take, props, take-append-drop}
use Rattle.scope_rules.proofs.StoredNames.{StoredText, stored_parts}

-- of two stored texts that are equal the lengths are equal
len_of_text : (l m : ℕ) (x y : List ℕ) → take l x ≡ take m y → StoredText l x → StoredText m y → l ≡ m
len_of_text l m x y same p q =
    let a : length (take l x) ≡ l = length-take l x ∙ omega (arith, p.fits, p.room) in
    let b : length (take m y) ≡ m = length-take m y ∙ omega (arith, q.fits, q.room) in
    sym a ∙ ap length same ∙ b

bytes_of_text : (l m : ℕ) (x y : List ℕ) → l ≡ m → take l x ≡ take m y → StoredText l x → StoredText m y → x ≡ y
bytes_of_text l m x y len same p q =
    let zeros : drop l x ≡ drop m y = p.padded ∙ ap (λ n. replicate (24 - n) 0) len ∙ sym q.padded in
    sym (take-append-drop l x) ∙ ap (λ w. w ++ drop l x) same ∙ ap (λ w. take m y ++ w) zeros ∙ take-append-drop m y

abbrev made : (l : ℕ) (x : List ℕ) → ∥ IsTrue (is_stored l x) ∥₁ → Name
made l x s = record { len = l; bytes = x; stored = s }

-- names with the same fields are one
same_fields : (l m : ℕ) (x y : List ℕ) (s : ∥ IsTrue (is_stored l x) ∥₁) (t : ∥ IsTrue (is_stored m y) ∥₁) → l ≡ m → x ≡ y → made l x s ≡ made m y t
same_fields l m x y s t len bytes =
    let same_len : (t : ∥ IsTrue (is_stored l y) ∥₁) → made l x s ≡ made l y t =
    subst (λ (w : List ℕ). (t : ∥ IsTrue (is_stored l w) ∥₁) → made l x s ≡ made l w t) bytes (λ t. ap (made l x) (squash₁ s t)) in
    subst (λ (k : ℕ). (t : ∥ IsTrue (is_stored k y) ∥₁) → made l x s ≡ made k y t) len same_len t

same_parts : (l m : ℕ) (x y : List ℕ) → ∥ IsTrue (is_stored l x) ∥₁ → ∥ IsTrue (is_stored m y) ∥₁ → take l x ≡ take m y → (l ≡ m) × (x ≡ y)
same_parts l m x y s t same =
    let numbers : IsProp (l ≡ m) = hlevel props in
    let lists : IsProp (x ≡ y) = hlevel props in
    let len : l ≡ m = ∥∥₁_elim s numbers (λ p. ∥∥₁_elim t numbers (λ q. len_of_text l m x y same (stored_parts l x p) (stored_parts m y q))) in
    (len, ∥∥₁_elim s lists (λ p. ∥∥₁_elim t lists (λ q. bytes_of_text l m x y len same (stored_parts l x p) (stored_parts m y q))))

-- names with the same text are one
pub same_text : (a b : Name) → text_of a ≡ text_of b → a ≡ b
same_text a b same =
    let parts = same_parts a.len b.len a.bytes b.bytes a.stored b.stored same in
    same_fields a.len b.len a.bytes b.bytes a.stored b.stored parts.0 parts.1

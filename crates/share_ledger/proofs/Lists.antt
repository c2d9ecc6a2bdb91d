-- Searches in lists that one test narrows, and lists that go on.
use Rattle.std.proofs.Common.{[], ◌∷◌, ◌≡◌, Bool, List, false, refl, true}
use Rattle.share_ledger.specs.{list_any}
use Rattle.share_ledger.proofs.Words.{both_ways, false_from_ne_true, or_from, or_parts}

-- if the wider test finds nothing, the narrower finds nothing
pub none_narrower : {A : Type 0} (p q : A → Bool) (xs : List A) → ((x : A) → p x ≡ true → q x ≡ true) → list_any q xs ≡ false → list_any p xs ≡ false
none_narrower p q [] wider none = refl
none_narrower p q (x ∷ xs) wider none =
    let parts = or_parts (q x) (list_any q xs) none in
    or_from (p x) (list_any p xs) (false_from_ne_true (p x) (λ so. both_ways (q x) parts.0 (wider x so))) (none_narrower p q xs wider parts.1)

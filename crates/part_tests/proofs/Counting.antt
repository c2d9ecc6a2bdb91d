-- What is counted from the back of a list, until enough are found.
use Rattle.std.proofs.Common.{◌≡◌, ◌+◌, ◌≤◌, ℕ, Bool, List, take, drop, count_by, cond, nat_eq, nat_le, ap, arith}
use Rattle.std.proofs.lemmas.List.Sums.{sum_by-take-drop}
use Rattle.std.proofs.lemmas.Bool.Decides.{nat_tests}

enough : (n found ahead behind all : ℕ) → ahead + behind ≡ all → found ≡ behind → found ≤ n → n ≤ found → nat_eq found n ≡ nat_le n all
enough n found ahead behind all parts counted few reached = grind (arith, nat_tests)

none_ahead : (n found ahead behind all : ℕ) → ahead + behind ≡ all → found ≡ behind → found ≤ n → ahead ≡ 0 → nat_eq found n ≡ nat_le n all
none_ahead n found ahead behind all parts counted few none = grind (arith, nat_tests)

-- enough were found
pub found_enough : {X : Type 0} (p : X → Bool) (xs : List X) (n found left : ℕ) → found ≡ count_by p (drop left xs) → found ≤ n → n ≤ found → nat_eq found n ≡ nat_le n (count_by p xs)
found_enough p xs n found left counted few reached =
    enough n found _ _ _ (sum_by-take-drop (λ x. cond (p x) 1 0) xs left) counted few reached

-- or nothing is left to look at
pub found_all : {X : Type 0} (p : X → Bool) (xs : List X) (n found left : ℕ) → found ≡ count_by p (drop left xs) → found ≤ n → left ≡ 0 → nat_eq found n ≡ nat_le n (count_by p xs)
found_all p xs n found left counted few none =
    none_ahead n found _ _ _ (sum_by-take-drop (λ x. cond (p x) 1 0) xs left) counted few (ap (λ k. count_by p (take k xs)) none)

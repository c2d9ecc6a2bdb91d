-- The times of events, one event more.
use Rattle.std.proofs.Common.{[], ℕ, ◌++◌, ◌+◌, ◌∷◌, ◌≡◌, List, arith, refl}
use Rattle.tree_dump.specs.{stamp_at, stamps_to}
use Rattle.tree_dump.proofs.Lemmas.{map-range_with_len_more}

pub stamps_none : (times : List ℕ) (now : ℕ) → stamps_to times now 0 ≡ []
unfolding stamps_to
stamps_none times now = refl

pub stamps_more : (times : List ℕ) (now n : ℕ) → stamps_to times now (n + 1) ≡ stamps_to times now n ++ stamp_at times now n ∷ []
unfolding stamps_to
stamps_more times now n = map-range_with_len_more (stamp_at times now) 0 n n (omega arith)

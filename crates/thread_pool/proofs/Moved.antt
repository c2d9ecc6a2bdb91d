-- Lists whose elements are taken from one to another, one at a time.
use Rattle.std.proofs.Common.{[], ℕ, ◌++◌, ◌+◌, ◌-◌, ◌<◌, ◌==◌, ◌∷◌, ◌≡◌, ◌≢◌, ◌≤◌, Bool, List, arith, false, refl, slice_index_or, subst, sym, true}
use Rattle.thread_pool.specs.{IsPermutation}
use Rattle.thread_pool.proofs.Words.{IsPermutation-append_right, append_assoc, nat_tests}

-- one of the second list is put behind the first
pub one_moved : {X : Type 0} → (xs ys : List X) (x : X) (zs : List X) → IsPermutation ys (x ∷ zs) → IsPermutation (xs ++ ys) ((xs ++ x ∷ []) ++ zs)
one_moved xs ys x zs same = subst (IsPermutation (xs ++ ys)) (sym (append_assoc xs (x ∷ []) zs)) (IsPermutation-append_right xs ys (x ∷ zs) same)

-- ---- one of n is taken away, and the last is put into its place: m are left

stay_at : {X : Type 0} (f : X → ℕ) (s place k m n : ℕ) (xs ys : List X) (d : X) (here : Bool) → (k == place) ≡ here → m + 1 ≡ n → (place + 1 < n → slice_index_or ys place d ≡ slice_index_or xs (n - 1) d) → (k ≢ place → k + 1 < n → slice_index_or ys k d ≡ slice_index_or xs k d) → ((j : ℕ) → place < j → j < n → f (slice_index_or xs j d) < s) → place ≤ k → k < m → f (slice_index_or ys k d) < s
stay_at f s place k m n xs ys d true is less last others earlier from within =
    let same : k ≡ place = grind (arith, nat_tests) in
    rw same (rw (last (omega (arith, less, same, within))) (earlier (n - 1) (omega (arith, less, same, within)) (omega (arith, less, within))))
stay_at f s place k m n xs ys d false is less last others earlier from within =
    let other : k ≢ place = grind (arith, nat_tests) in
    let after : place < k = grind arith in
    rw (others other (omega (arith, less, within))) (earlier k after (omega (arith, less, within)))

-- if those behind it are of earlier scopes, those from its place on are
pub earlier_stay : {X : Type 0} (f : X → ℕ) (s place m n : ℕ) (xs ys : List X) → m + 1 ≡ n → ((d : X) → place + 1 < n → slice_index_or ys place d ≡ slice_index_or xs (n - 1) d) → ((k : ℕ) (d : X) → k ≢ place → k + 1 < n → slice_index_or ys k d ≡ slice_index_or xs k d) → ((k : ℕ) (d : X) → place < k → k < n → f (slice_index_or xs k d) < s) → (k : ℕ) (d : X) → place ≤ k → k < m → f (slice_index_or ys k d) < s
earlier_stay f s place m n xs ys less last others earlier k d from within = stay_at f s place k m n xs ys d (k == place) refl less (last d) (others k d) (λ j. earlier j d) from within

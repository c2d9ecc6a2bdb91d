-- Lists of scopes: how often each stands in one, and in which order.
use Rattle.std.proofs.Common.{[], ℕ, ◌++◌, ◌+◌, ◌<◌, ◌∙◌, ◌∷◌, ◌≡◌, ◌≤◌, All, AllPairs, Bool, Contains, IsPermutation, List, None, Option, Some, ap, arith, cond, count_by, eqb, false, get_or, inl, inr, is_some, length, refl, set}
use Rattle.std.proofs.Common.{slice_get, subst, suc, sym, true, zero}
use Rattle.cancel_tree.specs.{FirstCancel, IsGrown, IsListOf, IsOnce, Words.CancelOrder, has_cancel, option_and_then, times}
use Rattle.cancel_tree.proofs.Words.{All-append, All-from_get_or, All-head, All-tail, AllPairs-cons, Contains-get_or, append-nil, append_assoc, cases_eq, cases_lt, count_by-le-length, eq-eqb, get_push, length_permutation, ne_eqb}
use Rattle.cancel_tree.proofs.Words.{slice_get-get_or, slice_get_past, sum_by-IsPermutation, sum_by-append, sum_by-cons, sum_by-set, sum_by_push}
use Rattle.cancel_tree.proofs.{AddLaws.push_here, AddLaws.push_length, SpreadLaws.slice_get-set}

-- ---- how often

abbrev one : ℕ → ℕ → ℕ
one s t = cond (eqb t s) 1 0

one_is : (s t : ℕ) → s ≡ t → one s t ≡ 1
one_is s t e = ap (λ b. cond b 1 0) (eq-eqb t s (sym e))

times_cons : (s t : ℕ) (xs : List ℕ) → times s (t ∷ xs) ≡ one s t + times s xs
times_cons s t xs = sum_by-cons (one s) t xs

pub times_append : (s : ℕ) (xs ys : List ℕ) → times s (xs ++ ys) ≡ times s xs + times s ys
times_append s xs ys = sum_by-append (one s) xs ys

pub times_moved : (s : ℕ) (xs ys : List ℕ) → IsPermutation xs ys → times s ys ≡ times s xs
times_moved s xs ys h = sum_by-IsPermutation (one s) xs ys h

-- what stands in a list stands there once or more
pub contains_times : (xs : List ℕ) (s : ℕ) → Contains xs s → 1 ≤ times s xs
contains_times [] s (k, lt, e) = absurd (omega (arith, lt))
contains_times (x ∷ xs) s (zero, lt, e) = let a : one s x ≡ 1 = one_is s x (sym e) in let b = times_cons s x xs in omega arith
contains_times (x ∷ xs) s (suc k, lt, e) = let a : 1 ≤ times s xs = contains_times xs s (k, omega (arith, lt), e) in let b = times_cons s x xs in omega arith

pub times_contains : (xs : List ℕ) (s : ℕ) → 1 ≤ times s xs → Contains xs s
times_contains [] s h = absurd (omega (arith, h))
times_contains (x ∷ xs) s h =
    elim (cases_eq x s) [
      | inl e ↦ (zero, omega arith, e)
      | inr ne ↦ (let a : one s x ≡ 0 = ap (λ b. cond b 1 0) (ne_eqb x s ne) in
          let b = times_cons s x xs in
          let there = times_contains xs s (omega (arith, h)) in
          (suc there.0, omega (arith, there.1), there.2))
    ]

-- what stands at two places stands there twice
pub twice_times : (xs : List ℕ) (i j d : ℕ) → i < j → j < length xs → get_or xs i d ≡ get_or xs j d → 2 ≤ times (get_or xs i d) xs
twice_times [] i j d lt l e = absurd (omega (arith, l))
twice_times (x ∷ xs) i zero d lt l e = absurd (omega (arith, lt))
twice_times (x ∷ xs) zero (suc j) d lt l e =
    let a : one x x ≡ 1 = one_is x x refl in
    let there : Contains xs x = subst (Contains xs) (sym e) (Contains-get_or xs j d (omega (arith, l))) in
    let b = contains_times xs x there in
    let f = times_cons x x xs in
    omega arith
twice_times (x ∷ xs) (suc i) (suc j) d lt l e =
    let a = twice_times xs i j d (omega (arith, lt)) (omega (arith, l)) e in
    let f = times_cons (get_or xs i d) x xs in
    omega arith

-- ---- pairs

-- each of the first with each of those after it
head_all : {X : Type 0} (R : X → X → Type 0) (x : X) (xs : List X) → AllPairs R (x ∷ xs) → All (R x) xs
head_all R x xs p = All-from_get_or (R x) xs x (λ i l. p zero (suc i) x (omega arith) (omega arith))

tail_pairs : {X : Type 0} (R : X → X → Type 0) (x : X) (xs : List X) → AllPairs R (x ∷ xs) → AllPairs R xs
tail_pairs R x xs p i j d lt l = p (suc i) (suc j) d (omega arith) (omega arith)

pub pairs_nil : {X : Type 0} (R : X → X → Type 0) → AllPairs R []
pairs_nil R i j d lt l = absurd (omega (arith, l))

-- the pairs of two lists, one after the other
pub pairs_append : {X : Type 0} (R : X → X → Type 0) (xs ys : List X) → AllPairs R xs → AllPairs R ys → All (λ x. All (R x) ys) xs → AllPairs R (xs ++ ys)
pairs_append R [] ys a b c = b
pairs_append R (x ∷ xs) ys a b c =
    AllPairs-cons R x (xs ++ ys) (All-append (R x) xs ys (head_all R x xs a) (All-head (λ x. All (R x) ys) x xs c))
    (pairs_append R xs ys (tail_pairs R x xs a) b (All-tail (λ x. All (R x) ys) x xs c))

-- ---- which scopes have a first cancel

has_cancel_set : (cancels : List (Option FirstCancel)) (j : ℕ) (c : FirstCancel) (s : ℕ) → j < length cancels → has_cancel (set cancels j (Some c)) s ≡ cond (eqb s (suc j)) true (has_cancel cancels s)
has_cancel_set cancels j c zero lt = ap (λ b. cond b true false) (sym (ne_eqb 0 (suc j) (λ e. omega arith)))
has_cancel_set cancels j c (suc i) lt =
    ap (λ o. is_some (option_and_then (λ o. o) o)) (slice_get-set cancels j i (Some c) lt)
    ∙ elim (cases_eq i j) [
      | inl e ↦ ap (λ b. is_some (option_and_then (λ o. o) (cond b (Some (Some c)) (slice_get cancels i)))) (eq-eqb i j e) ∙ sym (ap (λ b. cond b true (has_cancel cancels (suc i))) (eq-eqb (suc i) (suc j) (ap suc e)))
      | inr ne ↦ ap (λ b. is_some (option_and_then (λ o. o) (cond b (Some (Some c)) (slice_get cancels i)))) (ne_eqb i j ne) ∙ sym (ap (λ b. cond b true (has_cancel cancels (suc i))) (ne_eqb (suc i) (suc j) (λ e. ne (omega arith))))
    ]

abbrev tally : Option FirstCancel → ℕ
tally o = cond (is_some o) 1 0

-- a scope that has no first cancel is listed when it gets one
pub listed_put : (cancels : List (Option FirstCancel)) (xs : List ℕ) (j : ℕ) (c : FirstCancel) (d : Option FirstCancel) → j < length cancels → is_some (get_or cancels j d) ≡ false → IsListOf cancels xs → IsListOf (set cancels j (Some c)) (xs ++ suc j ∷ [])
listed_put cancels xs j c d lt none h = record {
  once = λ s. sum_by_push (one s) xs (suc j) ∙ ap (λ n. n + one s (suc j)) (h.once s) ∙ by s ∙ ap (λ b. cond b 1 0) (sym (has_cancel_set cancels j c s lt));
  count = push_length xs (suc j) ∙ (let e = sum_by-set tally cancels j (Some c) d lt in let z : tally (get_or cancels j d) ≡ 0 = ap (λ b. cond b 1 0) none in let n = h.count in omega arith);
}
  where
    no_first_cancel : has_cancel cancels (suc j) ≡ false
    no_first_cancel = ap (λ o. is_some (option_and_then (λ o. o) o)) (slice_get-get_or cancels j d lt) ∙ none

    by : (s : ℕ) → cond (has_cancel cancels s) 1 0 + one s (suc j) ≡ cond (cond (eqb s (suc j)) true (has_cancel cancels s)) 1 0
    by s =
        elim (cases_eq s (suc j)) [
          | inl e ↦ (let a : has_cancel cancels s ≡ false = ap (has_cancel cancels) e ∙ no_first_cancel in
              let b : one s (suc j) ≡ 1 = one_is s (suc j) e in
              (λ i. cond (a i) 1 0 + b i) ∙ sym (ap (λ b. cond (cond b true (has_cancel cancels s)) 1 0) (eq-eqb s (suc j) e)))
          | inr ne ↦ (let b : one s (suc j) ≡ 0 = ap (λ b. cond b 1 0) (ne_eqb (suc j) s (λ e. ne (sym e))) in
              let z : cond (has_cancel cancels s) 1 0 + 0 ≡ cond (has_cancel cancels s) 1 0 = omega arith in
              ap (λ n. cond (has_cancel cancels s) 1 0 + n) b ∙ z ∙ sym (ap (λ b. cond (cond b true (has_cancel cancels s)) 1 0) (ne_eqb s (suc j) ne)))
        ]

-- and one that has a first cancel is listed already
pub listed_already : (cancels : List (Option FirstCancel)) (xs : List ℕ) (j : ℕ) (c : FirstCancel) (d : Option FirstCancel) → j < length cancels → is_some (get_or cancels j d) ≡ true → IsListOf cancels xs → IsListOf (set cancels j (Some c)) xs
listed_already cancels xs j c d lt some h = record {
  once = λ s. h.once s ∙ ap (λ b. cond b 1 0) (by s ∙ sym (has_cancel_set cancels j c s lt));
  count = h.count ∙ (let e = sum_by-set tally cancels j (Some c) d lt in let z : tally (get_or cancels j d) ≡ 1 = ap (λ b. cond b 1 0) some in omega arith);
}
  where
    here : has_cancel cancels (suc j) ≡ true
    here = ap (λ o. is_some (option_and_then (λ o. o) o)) (slice_get-get_or cancels j d lt) ∙ some

    by : (s : ℕ) → has_cancel cancels s ≡ cond (eqb s (suc j)) true (has_cancel cancels s)
    by s =
        elim (cases_eq s (suc j)) [
          | inl e ↦ ap (has_cancel cancels) e ∙ here ∙ sym (ap (λ b. cond b true (has_cancel cancels s)) (eq-eqb s (suc j) e))
          | inr ne ↦ sym (ap (λ b. cond b true (has_cancel cancels s)) (ne_eqb s (suc j) ne))
        ]

-- if one has none, fewer are listed than there are
pub fewer_listed : (cancels : List (Option FirstCancel)) (xs : List ℕ) (j : ℕ) (d : Option FirstCancel) → j < length cancels → is_some (get_or cancels j d) ≡ false → IsListOf cancels xs → length xs < length cancels
fewer_listed cancels xs j d lt none h = let e = below cancels j d lt none in let n = h.count in omega arith
  where
    below : (cancels : List (Option FirstCancel)) (j : ℕ) (d : Option FirstCancel) → j < length cancels → is_some (get_or cancels j d) ≡ false → count_by is_some cancels < length cancels
    below [] j d lt none = absurd (omega (arith, lt))
    below (o ∷ os) zero d lt none = let e = sum_by-cons tally o os in let z : tally o ≡ 0 = ap (λ b. cond b 1 0) none in let l = count_by-le-length is_some os in omega arith
    below (o ∷ os) (suc j) d lt none =
        let e = sum_by-cons tally o os in let l = below os j d (omega (arith, lt)) none in
        let z : tally o ≤ 1 = at_most o in omega arith
      where
        at_most : (o : Option FirstCancel) → tally o ≤ 1
        at_most None = omega arith
        at_most (Some c) = omega arith

-- the order in which they stand does not matter
pub listed_moved : (cancels : List (Option FirstCancel)) (xs ys : List ℕ) → IsPermutation xs ys → IsListOf cancels xs → IsListOf cancels ys
listed_moved cancels xs ys moved h = record {
  once = λ s. times_moved s xs ys moved ∙ h.once s;
  count = length_permutation xs ys moved ∙ h.count;
}

at_most_one : (b : Bool) → cond b 1 0 ≤ 1
at_most_one true = omega arith
at_most_one false = omega arith

pub listed_once : (cancels : List (Option FirstCancel)) (xs : List ℕ) → IsListOf cancels xs → IsOnce xs
listed_once cancels xs h s = let e = h.once s in let a = at_most_one (has_cancel cancels s) in omega arith

-- a new scope is listed if it has a first cancel from the start
pub listed_new : (cancels : List (Option FirstCancel)) (xs : List ℕ) (o : Option FirstCancel) → IsListOf cancels xs → IsListOf (cancels ++ o ∷ []) (cond (is_some o) (xs ++ suc (length cancels) ∷ []) xs)
listed_new cancels xs o h = record {
  once = λ s. by o s;
  count = counted o ∙ ap (λ n. n + tally o) h.count ∙ sym (sum_by_push tally cancels o);
}
  where
    counted : (o : Option FirstCancel) → length (cond (is_some o) (xs ++ suc (length cancels) ∷ []) xs) ≡ length xs + tally o
    counted None = omega arith
    counted (Some c) = push_length xs (suc (length cancels)) ∙ omega arith

    cancel_past : (s : ℕ) → length cancels < s → has_cancel cancels s ≡ false
    cancel_past zero lt = refl
    cancel_past (suc i) lt = ap (λ o. is_some (option_and_then (λ o. o) o)) (slice_get_past cancels i (omega arith))

    cancel_new : (o : Option FirstCancel) → has_cancel (cancels ++ o ∷ []) (suc (length cancels)) ≡ is_some o
    cancel_new o = ap (λ o. is_some (option_and_then (λ o. o) o)) (push_here cancels o)

    cancel_before : (o : Option FirstCancel) (s : ℕ) → s ≤ length cancels → has_cancel (cancels ++ o ∷ []) s ≡ has_cancel cancels s
    cancel_before o zero le = refl
    cancel_before o (suc i) le = ap (λ o. is_some (option_and_then (λ o. o) o)) (get_push cancels o i (omega arith))

    cancel_after : (o : Option FirstCancel) (s : ℕ) → suc (length cancels) < s → has_cancel (cancels ++ o ∷ []) s ≡ false
    cancel_after o zero lt = refl
    cancel_after o (suc i) lt = ap (λ o. is_some (option_and_then (λ o. o) o)) (slice_get_past (cancels ++ o ∷ []) i (let l : length (cancels ++ o ∷ []) ≡ suc (length cancels) = push_length cancels o in omega arith))

    listed_at : (o : Option FirstCancel) (s : ℕ) → times s (cond (is_some o) (xs ++ suc (length cancels) ∷ []) xs) ≡ times s xs + cond (is_some o) (one s (suc (length cancels))) 0
    listed_at None s = omega arith
    listed_at (Some c) s = sum_by_push (one s) xs (suc (length cancels))

    same_zero : (b : Bool) → cond {A = ℕ} b 0 0 ≡ 0
    same_zero true = refl
    same_zero false = refl

    by : (o : Option FirstCancel) (s : ℕ) → times s (cond (is_some o) (xs ++ suc (length cancels) ∷ []) xs) ≡ cond (has_cancel (cancels ++ o ∷ []) s) 1 0
    by o s =
        elim (cases_eq s (suc (length cancels))) [
          | inl e ↦ (let a : times s xs ≡ 0 = h.once s ∙ ap (λ b. cond b 1 0) (cancel_past s (omega arith)) in
              let b : one s (suc (length cancels)) ≡ 1 = one_is s (suc (length cancels)) e in
              let d : cond (is_some o) (one s (suc (length cancels))) 0 ≡ cond {A = ℕ} (is_some o) 1 0 = ap (λ n. cond (is_some o) n 0) b in
              let f = listed_at o s in
              let g : times s (cond (is_some o) (xs ++ suc (length cancels) ∷ []) xs) ≡ cond {A = ℕ} (is_some o) 1 0 = omega arith in
              g ∙ sym (ap (λ s. cond {A = ℕ} (has_cancel (cancels ++ o ∷ []) s) 1 0) e ∙ ap (λ b. cond {A = ℕ} b 1 0) (cancel_new o)))
          | inr ne ↦ (let b : one s (suc (length cancels)) ≡ 0 = ap (λ b. cond b 1 0) (ne_eqb (suc (length cancels)) s (λ e. ne (sym e))) in
              let z : cond (is_some o) (one s (suc (length cancels))) 0 ≡ 0 = ap (λ n. cond (is_some o) n 0) b ∙ same_zero (is_some o) in
              let f = listed_at o s in
              let g : times s (cond (is_some o) (xs ++ suc (length cancels) ∷ []) xs) ≡ times s xs = omega arith in
              g ∙ h.once s ∙ ap (λ b. cond b 1 0) (sym (others o s ne)))
        ]
      where
        others : (o : Option FirstCancel) (s : ℕ) → (s ≡ suc (length cancels) → ⊥) → has_cancel (cancels ++ o ∷ []) s ≡ has_cancel cancels s
        others o s ne =
            elim (cases_eq s (suc (length cancels))) [
              | inl e ↦ absurd (ne e)
              | inr q ↦ elim (cases_lt s (suc (length cancels))) [
                | inl lt ↦ cancel_before o s (omega arith)
                | inr ge ↦ cancel_after o s (omega arith) ∙ sym (cancel_past s (omega arith))
              ]
            ]

-- ---- growing

pub grown_none : (l : CancelOrder) → IsGrown l l
grown_none l = record { added = []; scopes = sym (append-nil l.scopes.items); run = refl; place = refl; in_order = refl; room = refl }

pub grown_twice : (old mid new : CancelOrder) → IsGrown old mid → IsGrown mid new → IsGrown old new
grown_twice old mid new a b = record {
  added = a.added ++ b.added;
  scopes = b.scopes ∙ ap (λ xs. xs ++ b.added) a.scopes ∙ append_assoc old.scopes.items a.added b.added;
  run = b.run ∙ a.run;
  place = b.place ∙ a.place;
  in_order = b.in_order ∙ a.in_order;
  room = b.room ∙ a.room;
}

-- what was listed in one go had no first cancel before, and has one now
pub added_new : (old new : CancelOrder) (cancels cancels_new : List (Option FirstCancel)) (grown : IsGrown old new) → IsListOf cancels old.scopes.items → IsListOf cancels_new new.scopes.items → (s : ℕ) → Contains grown.added s → (has_cancel cancels s ≡ false) × (has_cancel cancels_new s ≡ true)
added_new old new cancels cancels_new grown was is s there =
    let a : 1 ≤ times s grown.added = contains_times grown.added s there in
    let b : times s new.scopes.items ≡ times s old.scopes.items + times s grown.added = ap (times s) grown.scopes ∙ times_append s old.scopes.items grown.added in
    let c = was.once s in
    let d = is.once s in
    (none (has_cancel cancels s) (let m = at_most_one (has_cancel cancels_new s) in omega arith), some (has_cancel cancels_new s) (omega arith))
  where
    none : (b : Bool) → cond b 1 0 < 1 → b ≡ false
    none true lt = absurd (omega (arith, lt))
    none false lt = refl

    some : (b : Bool) → 1 ≤ cond b 1 0 → b ≡ true
    some true le = refl
    some false le = absurd (omega (arith, le))

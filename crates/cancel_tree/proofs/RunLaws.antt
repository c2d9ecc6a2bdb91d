-- What the calls make of the runs in which the cancelled scopes are listed.
use Rattle.std.proofs.Common.{[], ℕ, ◌++◌, ◌+◌, ◌-◌, ◌<◌, ◌∙◌, ◌∷◌, ◌≡◌, ◌≢◌, ◌≤◌, ◌⊎◌, All, AllPairs, IsPermutation, List, Option, Some, ap, arith, drop, false, get_or, inl, inr, length, refl, subst, suc, sym, take, true, zero}
use Rattle.cancel_tree.specs.{AreRuns, IsBefore, IsEarlier, IsGrown, IsNonDecreasing, IsOnce, Words.CancelOrder}
use Rattle.cancel_tree.proofs.Words.{All-append, All-cons, All-nil, All-permutation, All-weaker, IsPermutation-append, IsPermutation-put_mid, IsPermutation-refl, append-nil, append_assoc, cases_eq, false≢true, length-drop}
use Rattle.cancel_tree.proofs.Words.{length_permutation, mid_len, mid_of, put_mid, take-put_mid}
use Rattle.cancel_tree.proofs.{ColumnLaws.written_back, ListLaws.pairs_append, ListLaws.pairs_nil, ListLaws.times_append, ListLaws.times_moved, ListLaws.twice_times}

-- ---- the runs of more scopes

before_stays : (when new : ℕ → Option ℕ) → ((s n : ℕ) → when s ≡ Some n → new s ≡ Some n) → (s t : ℕ) → IsBefore when s t → IsBefore new s t
before_stays when new more s t b = record { first = b.first; then = b.then; is_first = more s b.first b.is_first; is_then = more t b.then b.is_then; not_later = b.not_later; by_number = b.by_number }

earlier_stays : (when new : ℕ → Option ℕ) → ((s n : ℕ) → when s ≡ Some n → new s ≡ Some n) → (m s : ℕ) → IsEarlier when m s → IsEarlier new m s
earlier_stays when new more m s b = record { at = b.at; is = more s b.at b.is; earlier = b.earlier }

-- a scope stays where it is while others are cancelled
pub runs_stay : (when new : ℕ → Option ℕ) → ((s n : ℕ) → when s ≡ Some n → new s ≡ Some n) → (l : CancelOrder) → AreRuns when l → AreRuns new l
runs_stay when new more l r = record {
  front = r.front;
  rest = r.rest;
  is = r.is;
  run = r.run;
  earlier = All-weaker (IsEarlier when l.place) (IsEarlier new l.place) (earlier_stays when new more l.place) r.front r.earlier;
  ordered = λ i j d lt k. before_stays when new more _ _ (r.ordered i j d lt k);
  now = All-weaker (λ s. when s ≡ Some l.place) (λ s. new s ≡ Some l.place) (λ s e. more s l.place e) r.rest r.now;
  sorted = r.sorted;
}

-- the scopes that are listed at the end became cancelled at the last place
pub runs_grow : (when : ℕ → Option ℕ) (old new : CancelOrder) (grown : IsGrown old new) → old.in_order ≡ false → AreRuns when old → All (λ s. when s ≡ Some old.place) grown.added → AreRuns when new
runs_grow when old new grown free r more = record {
  front = r.front;
  rest = r.rest ++ grown.added;
  is = grown.scopes ∙ ap (λ xs. xs ++ grown.added) r.is ∙ append_assoc r.front r.rest grown.added;
  run = r.run ∙ sym grown.run;
  earlier = subst (λ m. All (IsEarlier when m) r.front) (sym grown.place) r.earlier;
  ordered = r.ordered;
  now = subst (λ m. All (λ s. when s ≡ Some m) (r.rest ++ grown.added)) (sym grown.place) (All-append (λ s. when s ≡ Some old.place) r.rest grown.added r.now more);
  sorted = λ e. absurd (false≢true (sym (grown.in_order ∙ free) ∙ e));
}

same_end : (xs ys : List ℕ) (zs : List ℕ) → xs ++ ys ≡ xs ++ zs → ys ≡ zs
same_end [] ys zs e = e
same_end (x ∷ xs) ys zs e = same_end xs ys zs (ap (drop 1) e)

-- one scope is listed
pub runs_push : (when : ℕ → Option ℕ) (old new : CancelOrder) (s : ℕ) (grown : IsGrown old new) → new.scopes.items ≡ old.scopes.items ++ s ∷ [] → old.in_order ≡ false → AreRuns when old → when s ≡ Some old.place → AreRuns when new
runs_push when old new s grown is free r at =
    runs_grow when old new grown free r
    (subst (All (λ t. when t ≡ Some old.place)) (same_end old.scopes.items (s ∷ []) grown.added (sym is ∙ grown.scopes)) (All-cons (λ t. when t ≡ Some old.place) s [] at (All-nil (λ t. when t ≡ Some old.place))))

-- ---- a run that is put in order

take_whole : (xs : List ℕ) (k : ℕ) → k ≡ length xs → take k xs ≡ xs
take_whole [] zero e = refl
take_whole [] (suc k) e = refl
take_whole (x ∷ xs) zero e = absurd (omega (arith, e))
take_whole (x ∷ xs) (suc k) e = ap (λ ys. x ∷ ys) (take_whole xs k (omega (arith, e)))

take_front : (front rest : List ℕ) (a : ℕ) → length front ≡ a → take a (front ++ rest) ≡ front
take_front front rest a at = ap (λ a. take a (front ++ rest)) (sym at) ∙ past front
  where
    past : (front : List ℕ) → take (length front) (front ++ rest) ≡ front
    past [] = refl
    past (x ∷ xs) = ap (λ ys. x ∷ ys) (past xs)

drop_front : (front rest : List ℕ) (a : ℕ) → length front ≡ a → drop a (front ++ rest) ≡ rest
drop_front front rest a at = ap (λ a. drop a (front ++ rest)) (sym at) ∙ past front
  where
    past : (front : List ℕ) → drop (length front) (front ++ rest) ≡ rest
    past [] = refl
    past (x ∷ xs) = past xs

-- the list once its part from a on was written back: n is how long the list is
module _ (old lent ys : List ℕ) (a n : ℕ) (value : lent ≡ old) (lt : a < n) (len : length lent ≡ n) (moved : IsPermutation (mid_of a (length lent - a) lent) ys) where
  abbrev put : List ℕ
  put = put_mid a (length lent - a) lent ys

  whole : IsPermutation lent put
  whole = IsPermutation-put_mid a (length lent - a) lent ys moved

  count : length put ≡ n
  count = length_permutation lent put whole ∙ len

  as_many : n ≡ a + length ys
  as_many =
      let e : length ys ≡ length (mid_of a (length lent - a) lent) = length_permutation (mid_of a (length lent - a) lent) ys moved in
      let f : length (mid_of a (length lent - a) lent) ≡ length lent - a = mid_len a (length lent) lent (omega arith) in
      omega (arith, lt, len)

  pub back_is : take n (put ++ drop (length put) old) ≡ take a old ++ ys
  back_is = written_back old put n count ∙ sym (take_whole put n (sym count)) ∙ take-put_mid a (length lent - a) lent ys n as_many (omega (arith, lt, len)) ∙ ap (λ xs. take a xs ++ ys) value

  pub back_moved : IsPermutation old (take n (put ++ drop (length put) old))
  back_moved = subst (IsPermutation old) (sym (written_back old put n count)) (subst (λ xs. IsPermutation xs put) value whole)

  pub part_moved : IsPermutation (drop a old) ys
  part_moved =
      subst (λ xs. IsPermutation xs ys)
      (take_whole (drop a lent) (length lent - a) (sym (length-drop a lent)) ∙ ap (drop a) value) moved

-- numbers that do not fall, and of which none stands twice, rise
pub rising : (front ys : List ℕ) → IsOnce (front ++ ys) → IsNonDecreasing ys → AllPairs (λ s t. s < t) ys
rising front ys once up i j d lt l =
    let le : get_or ys i d ≤ get_or ys j d = up i j d (omega arith) l in
    by (cases_eq (get_or ys i d) (get_or ys j d)) le
  where
    by : (get_or ys i d ≡ get_or ys j d) ⊎ (get_or ys i d ≢ get_or ys j d) → get_or ys i d ≤ get_or ys j d → get_or ys i d < get_or ys j d
    by (inl e) le = absurd (
        let a = twice_times ys i j d lt l e in
        let b = times_append (get_or ys i d) front ys in
        let c = once (get_or ys i d) in
        omega arith)
    by (inr ne) le = omega (arith, ne)

-- the last run is put in order
pub runs_sorted : (when : ℕ → Option ℕ) (l new : CancelOrder) (ys : List ℕ) → new.run ≡ l.run → new.place ≡ l.place → new.scopes.items ≡ take l.run l.scopes.items ++ ys → IsPermutation (drop l.run l.scopes.items) ys → IsNonDecreasing ys
    → IsOnce l.scopes.items → AreRuns when l → AreRuns when new
runs_sorted when l new ys run place is moved up once r =
    let part : IsPermutation r.rest ys = subst (λ xs. IsPermutation xs ys) (ap (drop l.run) r.is ∙ drop_front r.front r.rest l.run r.run) moved in
    let all : IsPermutation l.scopes.items (r.front ++ ys) = subst (λ xs. IsPermutation xs (r.front ++ ys)) (sym r.is) (IsPermutation-append r.front r.front r.rest ys (IsPermutation-refl r.front) part) in
    record {
      front = r.front;
      rest = ys;
      is = is ∙ ap (λ xs. xs ++ ys) (ap (take l.run) r.is ∙ take_front r.front r.rest l.run r.run);
      run = r.run ∙ sym run;
      earlier = subst (λ m. All (IsEarlier when m) r.front) (sym place) r.earlier;
      ordered = r.ordered;
      now = subst (λ m. All (λ s. when s ≡ Some m) ys) (sym place) (All-permutation (λ s. when s ≡ Some l.place) r.rest ys part r.now);
      sorted = λ e. rising r.front ys (λ s. let f = times_moved s l.scopes.items (r.front ++ ys) all in let o = once s in omega arith) up;
    }

-- if the fields are the same, so are the runs
pub runs_same : (when : ℕ → Option ℕ) (l new : CancelOrder) → new.scopes.items ≡ l.scopes.items → new.run ≡ l.run → new.place ≡ l.place → new.in_order ≡ l.in_order → AreRuns when l → AreRuns when new
runs_same when l new is run place in_order r = record {
  front = r.front;
  rest = r.rest;
  is = is ∙ r.is;
  run = r.run ∙ sym run;
  earlier = subst (λ m. All (IsEarlier when m) r.front) (sym place) r.earlier;
  ordered = r.ordered;
  now = subst (λ m. All (λ s. when s ≡ Some m) r.rest) (sym place) r.now;
  sorted = λ e. r.sorted (sym in_order ∙ e);
}

-- all that are listed, if the last run is in order, are in order
pub all_ordered : (when : ℕ → Option ℕ) (l : CancelOrder) (r : AreRuns when l) → l.in_order ≡ true → AllPairs (IsBefore when) (r.front ++ r.rest)
all_ordered when l r ok =
    pairs_append (IsBefore when) r.front r.rest r.ordered
    (λ i j d lt k. record {
      first = l.place;
      then = l.place;
      is_first = r.now i d (omega (arith, lt, k));
      is_then = r.now j d k;
      not_later = omega arith;
      by_number = λ e. r.sorted ok i j d lt k;
    })
    (λ i d lt. λ j e k. let here = r.earlier i d lt in record {
      first = here.at;
      then = l.place;
      is_first = here.is;
      is_then = r.now j e k;
      not_later = let f = here.earlier in omega arith;
      by_number = λ same. absurd (let f = here.earlier in omega (arith, same));
    })

-- a run begins, of a later place
pub runs_begin : (when : ℕ → Option ℕ) (l new : CancelOrder) → new.scopes.items ≡ l.scopes.items → new.run ≡ length l.scopes.items → l.place < new.place → l.in_order ≡ true → AreRuns when l → AreRuns when new
runs_begin when l new is run later ok r = record {
  front = r.front ++ r.rest;
  rest = [];
  is = is ∙ r.is ∙ sym (append-nil (r.front ++ r.rest));
  run = sym (run ∙ ap length r.is);
  earlier = All-append (IsEarlier when new.place) r.front r.rest
      (All-weaker (IsEarlier when l.place) (IsEarlier when new.place) (λ s e. record { at = e.at; is = e.is; earlier = let f = e.earlier in omega (arith, later) }) r.front r.earlier)
      (All-weaker (λ s. when s ≡ Some l.place) (IsEarlier when new.place) (λ s e. record { at = l.place; is = e; earlier = later }) r.rest r.now);
  ordered = all_ordered when l r ok;
  now = All-nil (λ s. when s ≡ Some new.place);
  sorted = λ e. pairs_nil (λ s t. s < t);
}

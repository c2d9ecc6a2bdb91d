-- The scopes of the first pairs of the order are those that are due, in order.
use Rattle.std.proofs.Common.{ℕ, ◌+◌, ◌<◌, ◌∙◌, ◌≡◌, ◌≤◌, Bool, IsTrue, List, None, Option, Some, ap, arith, cond, eqb, false, get_or, inl, inr, leb, length, not, refl, sym, take, true}
use Rattle.deadline_core.specs.{Contains, IsDueInOrder, IsStrictlySortedBy, IsTotalOrder, Less, Moments.Moments, Precedes, eq_by_cmp_equiv, is_at, is_due, is_past, list_any, nat_cmp, nat_cmp_total, nat_eq_equiv, on_total}
use Rattle.deadline_core.specs.{pair_cmp, prefix_len, scopes_up_to, take_while, then_total}
use Rattle.deadline_core.proofs.Words.{Contains-from_any, Contains-get_or, Less-from_sorted, cases_lt, cases_order, eqb-true, exact_pairs, exact_unsigned, false≢true, get_or-map, get_or-take, get_or_default, leb-false, leb-true}
use Rattle.deadline_core.proofs.Words.{length-map, length-prefix_len, list_any-from_Contains, list_any_more, nat_tests, prefix_len-le-length, prefix_len_passes, prefix_len_stops, same_Some, same_from_decides, tells_apart}
use Rattle.deadline_core.proofs.{First.found, First.listed, Listing.Lists}
use Rattle.std.specs.FinMap as fin

pair_cmp_total : IsTotalOrder pair_cmp
pair_cmp_total = then_total (on_total (λ (p : ℕ × ℕ). p.0) nat_cmp_total) (on_total (λ (p : ℕ × ℕ). p.1) nat_cmp_total)

pub rises : (p q : ℕ × ℕ) → pair_cmp p q ≡ Less → (p.0 ≤ q.0) × (p.0 ≡ q.0 → p.1 < q.1)
rises (d, s) (e, t) h = (let k : d ≤ e = grind (arith, nat_tests) in k, λ same. let k : s < t = grind (arith, nat_tests) in k)

abbrev pub has : List (ℕ × ℕ) → ℕ → ℕ → Bool
has ks e t = list_any (is_at (pair_cmp (e, t))) ks

module _ (now : ℕ) (ks : List (ℕ × ℕ)) where
  abbrev passes : ℕ × ℕ → Bool
  passes p = leb p.0 now

  abbrev n : ℕ
  n = prefix_len passes ks

  length_scopes : length (scopes_up_to now ks) ≡ n
  length_scopes = length-map (take_while passes ks) (λ p. p.1) ∙ length-prefix_len passes ks

  abbrev key : ℕ → ℕ × ℕ
  key k = get_or ks k (0, 0)

  within : (k : ℕ) → k < n → k < length ks
  within k lt = omega (arith, prefix_len-le-length passes ks)

  scope_at : (k d : ℕ) → k < n → get_or (scopes_up_to now ks) k d ≡ (key k).1
  scope_at k d lt =
      get_or-map (λ p. p.1) (take_while passes ks) k (0, 0) d (omega (arith, length-prefix_len passes ks)) ∙ ap (λ p. p.1) (get_or-take n ks k (0, 0) lt)

  has_key : (k : ℕ) → k < length ks → has ks (key k).0 (key k).1 ≡ true
  has_key k lt = list_any-from_Contains (eq_by_cmp_equiv pair_cmp_total) (key k) ks (Contains-get_or ks k (0, 0) lt)

  module _ (m : Moments) (lists : Lists (has ks) (fin.get m)) (sorted : IsStrictlySortedBy pair_cmp ks) where
    -- (of whatever moment)
    pub key_found : (k : ℕ) → k < length ks → fin.get m (key k).1 ≡ Some (key k).0
    key_found k lt = found (has ks) m lists (key k).0 (key k).1 (has_key k lt)

    due_listed : (s : ℕ) → Contains (scopes_up_to now ks) s → IsTrue (is_due m now s)
    due_listed s h =
        let lt : h.0 < n = omega (arith, h.1, length_scopes) in
        let is : (key h.0).1 ≡ s = sym (scope_at h.0 s lt) ∙ h.2 in
        ap (is_past now) (ap (fin.get m) (sym is) ∙ key_found h.0 (within h.0 lt)) ∙ prefix_len_passes passes ks h.0 (0, 0) lt

    -- a key past the first that fails the test is due too late
    late : (k s e : ℕ) → k < length ks → key k ≡ (e, s) → n ≤ k → n < length ks → now < e
    late k s e lt is past stops =
        let fails : now < (key n).0 = leb-false _ _ (prefix_len_stops passes ks (0, 0) stops) in
        let here : (key k).0 ≡ e = ap (λ p. p.0) is in
        let order : (n < k) → (key n).0 ≤ (key k).0 = λ l. (rises (key n) (key k) (Less-from_sorted pair_cmp ks n k (0, 0) sorted l lt)).0 in
        elim (cases_order n k) [ inl q ↦ (let same : (key n).0 ≡ (key k).0 = ap (λ j. (key j).0) q in omega arith) | inr r ↦ elim r [ inl l ↦ (let up : (key n).0 ≤ (key k).0 = order l in omega arith) | inr l ↦ absurd (omega arith) ] ]

    listed_due_at : (s e : ℕ) → fin.get m s ≡ Some e → e ≤ now → Contains (scopes_up_to now ks) s
    listed_due_at s e is le =
        let at = Contains-from_any (tells_apart (exact_pairs nat_cmp nat_cmp exact_unsigned exact_unsigned)) (e, s) ks (listed (has ks) m lists s e is) in
        let k = at.0 in
        let here : key k ≡ (e, s) = get_or_default ks k (0, 0) (e, s) at.1 ∙ at.2 in
        let before : k < n = elim (cases_lt k n) [ inl l ↦ l | inr past ↦ absurd (let l : now < e = late k s e at.1 here past (omega arith) in omega arith) ] in
        (k, omega (arith, length_scopes), scope_at k s before ∙ ap (λ p. p.1) here)

    listed_due_cases : (s : ℕ) (o : Option ℕ) → fin.get m s ≡ o → is_past now o ≡ true → Contains (scopes_up_to now ks) s
    listed_due_cases s None is h = absurd (false≢true h)
    listed_due_cases s (Some e) is h = listed_due_at s e is (leb-true e now h)

    in_order : (i j : ℕ) → i < j → j < length (scopes_up_to now ks) → Precedes m (get_or (scopes_up_to now ks) i 0) (get_or (scopes_up_to now ks) j 0)
    in_order i j lt last a b at_i at_j =
        let ltn : j < n = omega (arith, length_scopes) in
        let ltm : i < n = omega arith in
        let p : a ≡ (key i).0 = same_Some _ _ (sym at_i ∙ ap (fin.get m) (scope_at i 0 ltm) ∙ key_found i (within i ltm)) in
        let q : b ≡ (key j).0 = same_Some _ _ (sym at_j ∙ ap (fin.get m) (scope_at j 0 ltn) ∙ key_found j (within j ltn)) in
        let up = rises (key i) (key j) (Less-from_sorted pair_cmp ks i j (0, 0) sorted lt (within j ltn)) in
        let x : get_or (scopes_up_to now ks) i 0 ≡ (key i).1 = scope_at i 0 ltm in
        let y : get_or (scopes_up_to now ks) j 0 ≡ (key j).1 = scope_at j 0 ltn in
        (omega (arith, up.0), λ same. omega (arith, up.1 (sym p ∙ same ∙ q)))

    pub due_in_order : IsDueInOrder m now (scopes_up_to now ks)
    due_in_order = record {
      all = λ s. (due_listed s, λ h. listed_due_cases s (fin.get m s) refl h);
      in_order = in_order;
    }

-- ---- what is left once the scopes that are due are removed

pub list_any_due : (m : Moments) (now : ℕ) (xs : List ℕ) → IsDueInOrder m now xs → (q : ℕ) → list_any (eqb q) xs ≡ is_due m now q
list_any_due m now xs due q =
    same_from_decides (list_any (eqb q) xs) (is_due m now q)
    (λ h. Contains-from_any (λ x y. eqb-true x y) q xs h, λ h. list_any-from_Contains nat_eq_equiv q xs h)
    (λ h. (due.all q).1 h, λ h. (due.all q).0 h)

turned : (b : Bool) (x : Option ℕ) → cond b None x ≡ cond (not b) x None
turned true x = refl
turned false x = refl

pub left_of_due : (m n : Moments) (now : ℕ) (xs : List ℕ) → IsDueInOrder m now xs → ((q : ℕ) → fin.get n q ≡ cond (list_any (eqb q) xs) None (fin.get m q)) → n ≡ fin.retain_keys m (λ s. not (is_due m now s))
left_of_due m n now xs due is =
    fin.same_map nat_cmp_total fin.nat_cmp-IsAntisymmetric _ _
    (λ q. is q ∙ ap (λ b. cond b None (fin.get m q)) (list_any_due m now xs due q) ∙ turned (is_due m now q) (fin.get m q)
    ∙ sym (fin.get-retain_keys m (λ s. not (is_due m now s)) q (λ x e. ap (λ y. not (is_due m now y)) (sym (exact_unsigned q x e)))))

pub one_less : (m n : Moments) (xs : List ℕ) (i q : ℕ) → i < length xs → fin.get n q ≡ cond (list_any (eqb q) (take i xs)) None (fin.get m q)
    → fin.get (fin.remove n (get_or xs i 0)) q ≡ cond (list_any (eqb q) (take (i + 1) xs)) None (fin.get m q)
one_less m n xs i q lt h =
    let e = fin.get-remove nat_cmp_total n (get_or xs i 0) q in
    let f = list_any_more (eqb q) xs i 0 lt in
    grind (arith, nat_tests)

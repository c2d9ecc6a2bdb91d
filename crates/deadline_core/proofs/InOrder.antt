-- The pairs of the order are the deadlines with their scopes, the earlier first.
use Rattle.std.proofs.Common.{ℕ, ◌<◌, ◌≡◌, ◌≤◌, List, Some, get_or, length, refl, slice_get, subst, sym}
use Rattle.deadline_core.specs.{AreInOrder, IsStrictlySortedBy, Moments.Moments, nat_cmp, pair_cmp}
use Rattle.deadline_core.proofs.Words.{Contains-from_any, Less-from_sorted, exact_pairs, exact_unsigned, get_or_from_slice_get, slice_get_read, slice_get_within, tells_apart}
use Rattle.deadline_core.proofs.{Due.has, Due.key_found, Due.rises, First.listed, Listing.Lists}
use Rattle.std.specs.FinMap as fin

module _ (ks : List (ℕ × ℕ)) (m : Moments) (lists : Lists (has ks) (fin.get m)) (sorted : IsStrictlySortedBy pair_cmp ks) where
  abbrev key : ℕ → ℕ × ℕ
  key i = get_or ks i (0, 0)

  key_is : (i : ℕ) (p : ℕ × ℕ) → slice_get ks i ≡ Some p → key i ≡ p
  key_is i p is = get_or_from_slice_get ks i p (0, 0) is

  each : (i : ℕ) (p : ℕ × ℕ) → slice_get ks i ≡ Some p → fin.get m p.1 ≡ Some p.0
  each i p is = subst (λ (q : ℕ × ℕ). fin.get m q.1 ≡ Some q.0) (key_is i p is) (key_found 0 ks m lists sorted i (slice_get_within ks i p is))

  all : (s d : ℕ) → fin.get m s ≡ Some d → (i : ℕ) × (slice_get ks i ≡ Some (d, s))
  all s d is =
      let at = Contains-from_any (tells_apart (exact_pairs nat_cmp nat_cmp exact_unsigned exact_unsigned)) (d, s) ks (listed (has ks) m lists s d is) in
      (at.0, slice_get_read ks (length ks) at.0 (d, s) refl at.1 (sym at.2))

  in_order : (i j : ℕ) (p q : ℕ × ℕ) → i < j → slice_get ks i ≡ Some p → slice_get ks j ≡ Some q → p.0 ≤ q.0
  in_order i j p q lt is that =
      let up : (key i).0 ≤ (key j).0 = (rises (key i) (key j) (Less-from_sorted pair_cmp ks i j (0, 0) sorted lt (slice_get_within ks j q that))).0 in
      subst (λ (x : ℕ × ℕ). x.0 ≤ q.0) (key_is i p is) (subst (λ (x : ℕ × ℕ). (key i).0 ≤ x.0) (key_is j q that) up)

  pub pairs_in_order : AreInOrder m ks
  pairs_in_order = record { each = each; all = all; in_order = in_order }

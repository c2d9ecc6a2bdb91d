-- What the first pair of the order says of the deadlines.
use Rattle.std.proofs.Common.{ℕ, ◌<◌, ◌↔◌, ◌∙◌, ◌≡◌, ◌≤◌, Bool, Bor, None, Option, Some, ap, arith, false, refl, subst, sym, true}
use Rattle.deadline_core.specs.{IfNone, IsFirst, IsSome, Moments.Moments, is_gt, is_moment, nat_cmp, nat_cmp_total, option_copied, pair_cmp}
use Rattle.deadline_core.proofs.Words.{eq-eqb, eqb-true, false≢true, nat_tests}
use Rattle.deadline_core.proofs.Listing.{Lists}
use Rattle.std.specs.FinMap as map

pub moment_found : (o : Option ℕ) (d : ℕ) → is_moment o d ≡ true → o ≡ Some d
moment_found None d e = absurd (false≢true e)
moment_found (Some b) d e = ap Some (eqb-true b d e)

pub moment_found_back : (o : Option ℕ) (d : ℕ) → o ≡ Some d → is_moment o d ≡ true
moment_found_back o d e = ap (λ x. is_moment x d) e ∙ eq-eqb d d refl

before : (d s e t : ℕ) → is_gt (pair_cmp (d, s) (e, t)) ≡ false → d ≤ e
before d s e t h = grind (arith, nat_tests)

below : (d s t : ℕ) → is_gt (pair_cmp (d, s) (d, t)) ≡ false → s ≤ t
below d s t h = grind (arith, nat_tests)

module _ (has : ℕ → ℕ → Bool) (m : Moments) (lists : Lists has (map.get m)) where
  pub listed : (t e : ℕ) → map.get m t ≡ Some e → has e t ≡ true
  listed t e is = lists e t ∙ moment_found_back _ e is

  pub found : (d s : ℕ) → has d s ≡ true → map.get m s ≡ Some d
  found d s h = moment_found _ d (sym (lists d s) ∙ h)

  pub first_of_order : (d s : ℕ) → has d s ≡ true → ((e t : ℕ) → has e t ≡ true → is_gt (pair_cmp (d, s) (e, t)) ≡ false) → IsFirst m d s
  first_of_order d s h least = record {
    stands = found d s h;
    earliest = λ t e is. before d s e t (least e t (listed t e is));
    least = λ t is. below d s t (least d t (listed t d is));
  }

  unlisted : (t : ℕ) → ((e : ℕ) → has e t ≡ false) → (o : Option ℕ) → map.get m t ≡ o → o ≡ None
  unlisted t none None is = refl
  unlisted t none (Some e) is = absurd (false≢true (sym (none e) ∙ listed t e is))

  pub empty_order : ((e t : ℕ) → has e t ≡ false) → m ≡ map.empty
  empty_order none = map.same_map nat_cmp_total map.nat_cmp-IsAntisymmetric _ _ (λ t. unlisted t (λ e. none e t) (map.get m t) refl ∙ sym (map.get-empty nat_cmp t))

-- nothing was there to be the first
pub IfNone_copied : {X : Type 0} (r : Option (Bor X)) (o : Option X) (n : ℕ) (P : Type 0) → o ≡ option_copied r → (IsSome r ↔ (0 < n)) → (n ≡ 0 → P) → IfNone o P
IfNone_copied None o n P e h p = subst (λ x. IfNone x P) (sym e) (p (omega (arith, λ (lt : 0 < n). false≢true (h.1 lt))))
IfNone_copied (Some x) o n P e h p = subst (λ x. IfNone x P) (sym e) tt

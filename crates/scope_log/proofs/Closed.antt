-- How a scope that was not let go was closed.
use Rattle.std.proofs.Common.{ℕ, ◌&&◌, ◌++◌, ◌+◌, ◌==◌, ◌∙◌, ◌≡◌, ◌≤◌, ◌⊎◌, Bool, List, None, Option, Some, ap, false, inl, inr, length, length-append, nat_lt, not, refl, slice_get, sym, take, true}
use Rattle.scope_log.specs.{BeginClose, Event, History, NamesNone, Retirable, Words.closed, Words.scopes, Words.verdict, before, begins_for, covers, covers_another, covers_other, have_one_opener, opening, option_map_or, retired}
use Rattle.scope_log.specs.{some_below, unretired, violated, violating_at}
use Rattle.scope_log.proofs.Words.{begin_close_passed, eqb-false, ne_eqb, opening_later}
use Rattle.scope_log.proofs.{Closing.no_opener, Nested.gone_opening, Nested.same_covers, Numbered.part, Numbered.size, Past.IsScope, Past.accepted, Past.unopened, Ranges.any_scopes, Splitting.get_first, Splitting.get_second}
use Rattle.scope_log.proofs.{Splitting.some_second, Staged.same_has_tasks, Standing.same_joined}

nothing_of : (a b c : Bool) → (b ≡ true) ⊎ (c ≡ false) → (a && not b && c) ≡ false
nothing_of false b c so = refl
nothing_of true true c so = refl
nothing_of true false false so = refl
nothing_of true false true so = elim so [ inl is ↦ absurd cc | inr is ↦ absurd cc ]

module _ (r : Retirable) (es : List Event) where
  covers_gone : (s t : ℕ) → t ≤ scopes r.past → (s ≡ t → ⊥) → covers (unretired r es) s t ≡ false
  unfolding covers
  covers_gone s t within apart =
      let rest : (closed (unretired r es) t ≡ true) ⊎ (have_one_opener (opening (unretired r es) s) (opening (unretired r es) t) ≡ false) =
      elim (gone_opening r es t within) [
        | inl none ↦ inr (ap (have_one_opener (opening (unretired r es) s)) none ∙ no_opener (opening (unretired r es) s))
        | inr so ↦ inl so
      ] in
      rw (ne_eqb s t apart) (nothing_of (nat_lt s t) (closed (unretired r es) t) (have_one_opener (opening (unretired r es) s) (opening (unretired r es) t)) rest)

  other_gone : (s t : ℕ) (b : Bool) → t ≤ scopes r.past → (t == s) ≡ b → (not b && covers (unretired r es) s t) ≡ false
  other_gone s t true within is = refl
  other_gone s t false within is = covers_gone s t within (λ same. eqb-false t s is (sym same))

  pub same_covers_another : (s : ℕ) → IsScope r s → covers_another (unretired r es) s ≡ covers_another (retired r es) s
  unfolding covers_another
  same_covers_another s new =
      any_scopes r es (covers_other (unretired r es) s) (covers_other (retired r es) s)
      (λ t within. other_gone s t (t == s) within refl)
      (λ t later. ap (λ b. not (t == s) && b) (same_covers r es s t new later))

module _ (r : Retirable) (es : List Event) (none : NamesNone r es) where
  past_begins : (s i : ℕ) (e : Event) (g : History) → IsScope r s → slice_get r.past.events i ≡ Some e → begins_for g s e ≡ false
  past_begins s i (BeginClose a t) g new at =
      let owner = (begin_close_passed r.limits (before r.past i) a t (accepted r i (BeginClose a t) at)).owner in
      let there : opening r.past t ≡ Some owner.opened = opening_later r.past i t owner.opened owner.is in
      ap (λ b. b && covers_another g s) (ne_eqb t s (λ same. let here : opening r.past s ≡ Some owner.opened = ap (opening r.past) (sym same) ∙ there in absurd (cc (unopened r s new, here))))
  past_begins s i _ g new at = refl

  past_by : (s i : ℕ) (o : Option Event) (g : History) → IsScope r s → slice_get r.past.events i ≡ o → option_map_or (begins_for g s) o false ≡ false
  past_by s i None g new at = refl
  past_by s i (Some e) g new at = past_begins s i e g new at

  begins_alike : (s i : ℕ) (e : Event) → IsScope r s → begins_for (unretired r (take i es)) s e ≡ begins_for (retired r (take i es)) s e
  begins_alike s i (BeginClose a t) new = ap (λ b. (t == s) && b) (same_covers_another r (take i es) s new)
  begins_alike s i _ new = refl

  begins_by : (s i : ℕ) (o : Option Event) → IsScope r s → option_map_or (begins_for (unretired r (take i es)) s) o false ≡ option_map_or (begins_for (retired r (take i es)) s) o false
  begins_by s i None new = refl
  begins_by s i (Some e) new = begins_alike s i e new

  pub same_violated : (s : ℕ) → IsScope r s → violated (unretired r es) s ≡ violated (retired r es) s
  unfolding violated
  same_violated s new =
      ap (some_below (violating_at (unretired r es) s)) (length-append r.past.events es)
      ∙ some_second (violating_at (unretired r es) s) (violating_at (retired r es) s) (size r) (length es)
      (λ i within. ap (λ o. option_map_or (begins_for (before (unretired r es) i) s) o false) (get_first r.past.events es i within) ∙ past_by s i (slice_get r.past.events i) (before (unretired r es) i) new refl)
      (λ i within. ap (λ (g : History). option_map_or (begins_for g s) (slice_get (r.past.events ++ es) (size r + i)) false) (part r es i)
      ∙ (ap (λ o. option_map_or (begins_for (unretired r (take i es)) s) o false) (get_second r.past.events es i) ∙ begins_by s i (slice_get es i) new))

  pub same_verdict : (s : ℕ) → IsScope r s → verdict (unretired r es) s ≡ verdict (retired r es) s
  unfolding verdict
  same_verdict s new = rw (same_violated s new) (rw (same_has_tasks r es none s new) (rw (same_joined r es s new) refl))

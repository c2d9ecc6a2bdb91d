-- Whether a scope that was not let go is closing.
use Rattle.std.proofs.Common.{ℕ, ◌&&◌, ◌++◌, ◌+◌, ◌<◌, ◌∙◌, ◌≡◌, Bool, List, None, Option, Some, ap, arith, false, length, length-append, nat_lt, not, refl, slice_get, sym, take, true}
use Rattle.scope_log.specs.{BeginClose, Event, History, NamesNone, Opening, Retirable, Words.closed, Words.closing, before, begins_closing, closing_at, covers, have_one_opener, opening, option_map_or, retired, some_below}
use Rattle.scope_log.specs.{unretired}
use Rattle.scope_log.proofs.Words.{begin_close_passed, ne_eqb, opening_later}
use Rattle.scope_log.proofs.{Named.begun_named, Nested.same_covers, Numbered.part, Numbered.part_of_past, Numbered.size, Past.IsScope, Past.accepted, Past.unopened, Splitting.get_first, Splitting.get_second, Splitting.some_second}

none_before : {A : Type 0} (o : Option A) → ((x : A) → o ≡ Some x → ⊥) → o ≡ None
none_before None never = refl
none_before (Some x) never = absurd (never x refl)

pub no_opener : (o : Option Opening) → have_one_opener o None ≡ false
no_opener None = refl
no_opener (Some x) = refl

and_nothing : (b : Bool) → (b && false) ≡ false
and_nothing true = refl
and_nothing false = refl

module _ (r : Retirable) where
  -- a number that was not given in the past was not given in a part of it
  pub unopened_before : (i s : ℕ) → IsScope r s → opening (before r.past i) s ≡ None
  unopened_before i s new = none_before (opening (before r.past i) s) (λ o is. absurd (cc (opening_later r.past i s o is, unopened r s new)))

  covers_none : (h : History) (t s : ℕ) → opening h s ≡ None → (t ≡ s → ⊥) → covers h t s ≡ false
  unfolding covers
  covers_none h t s none apart =
      rw (ne_eqb t s apart) (rw none (rw (no_opener (opening h t)) (and_nothing (nat_lt t s && not (closed h s)))))

  begins_none : (i s : ℕ) (e : Event) → IsScope r s → slice_get r.past.events i ≡ Some e → begins_closing (before r.past i) s e ≡ false
  begins_none i s (BeginClose a t) new at =
      let owner = (begin_close_passed r.limits (before r.past i) a t (accepted r i (BeginClose a t) at)).owner in
      let none = unopened_before i s new in
      covers_none (before r.past i) t s none (λ same. let there : opening (before r.past i) s ≡ Some owner.opened = ap (opening (before r.past i)) (sym same) ∙ owner.is in absurd (cc (none, there)))
  begins_none i s _ new at = refl

  closing_none : (i s : ℕ) (o : Option Event) → IsScope r s → slice_get r.past.events i ≡ o → option_map_or (begins_closing (before r.past i) s) o false ≡ false
  closing_none i s None new at = refl
  closing_none i s (Some e) new at = begins_none i s e new at

module _ (r : Retirable) (es : List Event) (none : NamesNone r es) where
  closing_in_past : (s i : ℕ) → IsScope r s → i < size r → closing_at (unretired r es) s i ≡ false
  closing_in_past s i new within =
      ap (λ (g : History). option_map_or (begins_closing g s) (slice_get (r.past.events ++ es) i) false) (part_of_past r es i (omega (arith, within)))
      ∙ (ap (λ o. option_map_or (begins_closing (before r.past i) s) o false) (get_first r.past.events es i within)
      ∙ closing_none r i s (slice_get r.past.events i) new refl)

  begins_alike : (s i : ℕ) (e : Event) → IsScope r s → slice_get es i ≡ Some e → begins_closing (unretired r (take i es)) s e ≡ begins_closing (retired r (take i es)) s e
  begins_alike s i (BeginClose a t) new at = same_covers r (take i es) t s (begun_named r es none i a t at) new
  begins_alike s i _ new at = refl

  closing_by : (s i : ℕ) (o : Option Event) → IsScope r s → slice_get es i ≡ o → option_map_or (begins_closing (unretired r (take i es)) s) o false ≡ option_map_or (begins_closing (retired r (take i es)) s) o false
  closing_by s i None new at = refl
  closing_by s i (Some e) new at = begins_alike s i e new at

  closing_later : (s i : ℕ) → IsScope r s → closing_at (unretired r es) s (size r + i) ≡ closing_at (retired r es) s i
  closing_later s i new =
      ap (λ (g : History). option_map_or (begins_closing g s) (slice_get (r.past.events ++ es) (size r + i)) false) (part r es i)
      ∙ (ap (λ o. option_map_or (begins_closing (unretired r (take i es)) s) o false) (get_second r.past.events es i)
      ∙ closing_by s i (slice_get es i) new refl)

  pub same_closing : (s : ℕ) → IsScope r s → closing (unretired r es) s ≡ closing (retired r es) s
  unfolding closing
  same_closing s new =
      ap (some_below (closing_at (unretired r es) s)) (length-append r.past.events es)
      ∙ some_second (closing_at (unretired r es) s) (closing_at (retired r es) s) (size r) (length es) (λ i within. closing_in_past s i new within) (λ i within. closing_later s i new)

-- The best of some quotes.
use Rattle.std.specs.Prelude.{◌++◌, ◌<ℤ◌, ◌∷◌, ◌≡◌, ◌≤ℤ◌, ◌⊎◌}
use Rattle.quote_plan.specs.{[], ℕ, IsBest, List, Quote, Some, length, slice_get}
use Rattle.quote_plan.proofs.Words.{ap, arith, inl, inr, ints, refl, slice_get_within, subst, suc, sym, zero}

module _ (last : Quote) where
  -- what stands at a place of a list with one element more
  at_place : (quotes : List Quote) (k : ℕ) (quote : Quote) → slice_get (quotes ++ last ∷ []) k ≡ Some quote → (slice_get quotes k ≡ Some quote) ⊎ ((k ≡ length quotes) × (last ≡ quote))
  at_place [] zero quote is = inr (refl, cc)
  at_place [] (suc k) quote is = absurd cc
  at_place (q ∷ qs) zero quote is = inl is
  at_place (q ∷ qs) (suc k) quote is = elim (at_place qs k quote is) [ inl h ↦ inl h | inr h ↦ inr (ap suc h.0, h.1) ]

  still_there : (quotes : List Quote) (k : ℕ) (quote : Quote) → slice_get quotes k ≡ Some quote → slice_get (quotes ++ last ∷ []) k ≡ Some quote
  still_there [] k quote is = absurd cc
  still_there (q ∷ qs) zero quote is = is
  still_there (q ∷ qs) (suc k) quote is = still_there qs k quote is

  last_there : (quotes : List Quote) → slice_get (quotes ++ last ∷ []) (length quotes) ≡ Some last
  last_there [] = refl
  last_there (q ∷ qs) = last_there qs

  -- the first of equals stays the best
  pub stays_best : (quotes : List Quote) (best : Quote) → best.price ≤ℤ last.price → IsBest quotes best → IsBest (quotes ++ last ∷ []) best
  stays_best quotes best less is = record {
    place = is.place;
    there = still_there quotes is.place best is.there;
    least =
        λ k quote at. elim (at_place quotes k quote at) [ inl h ↦ is.least k quote h | inr h ↦ subst (λ (q : Quote). best.price ≤ℤ q.price) h.1 less ];
    first =
        λ k quote before at.
        elim (at_place quotes k quote at) [ inl h ↦ is.first k quote before h | inr h ↦ absurd (omega (arith, slice_get_within quotes is.place best is.there, h.0)) ];
  }

  -- a lesser price is the best from then on
  pub new_best : (quotes : List Quote) (best : Quote) → last.price <ℤ best.price → IsBest quotes best → IsBest (quotes ++ last ∷ []) last
  new_best quotes best less is = record {
    place = length quotes;
    there = last_there quotes;
    least =
        λ k quote at.
        elim (at_place quotes k quote at) [ inl h ↦ let b : best.price ≤ℤ quote.price = is.least k quote h in omega (arith, ints) | inr h ↦ subst (λ (q : Quote). last.price ≤ℤ q.price) h.1 (omega (arith, ints)) ];
    first =
        λ k quote before at.
        elim (at_place quotes k quote at) [ inl h ↦ let b : best.price ≤ℤ quote.price = is.least k quote h in omega (arith, ints) | inr h ↦ absurd (omega (arith, h.0)) ];
  }

  -- the only one is the best
  pub only_best : (quotes : List Quote) → quotes ≡ [] → IsBest (quotes ++ last ∷ []) last
  only_best quotes none =
      subst (λ (qs : List Quote). IsBest (qs ++ last ∷ []) last) (sym none) (record {
        place = 0;
        there = refl;
        least = λ k quote at. elim (at_place [] k quote at) [ inl h ↦ absurd cc | inr h ↦ subst (λ (q : Quote). last.price ≤ℤ q.price) h.1 (omega (arith, ints)) ];
        first = λ k quote before at. absurd (omega arith);
      })

-- The first places, one event after the other.
use Rattle.std.proofs.Common.{ℕ, ◌&&◌, ◌+◌, ◌==◌, ◌∙◌, ◌≡◌, List, None, Option, Some, ap, cond, false, if◌then◌else◌, refl, slice_get, sym, true}
use Rattle.run_times.specs.{Event, Landmark, earliest, is_named, named, named_at, noted_in, option_and_then, option_map_or, option_or}
use Rattle.run_times.proofs.Words.{earliest_more}

-- what is found so far, and what the next event adds
noted_is : (before place k : ℕ) (number old : Option ℕ) → noted_in before number place k old ≡ option_or old (if option_map_or (λ m. m == before + 1 + k) number false then Some place else None)
noted_is before place k None None = refl
noted_is before place k None (Some x) = refl
noted_is before place k (Some n) None = elim (n == before + 1 + k) as (λ b. cond (b && true) (Some place) None ≡ cond b (Some place) None) [ true ↦ refl | false ↦ refl ]
noted_is before place k (Some n) (Some x) = elim (n == before + 1 + k) as (λ b. cond (b && false) (Some place) (Some x) ≡ Some x) [ true ↦ refl | false ↦ refl ]

pub noted_more : (mark : Landmark) (events : List Event) (before k i : ℕ) (e : Event) (old : Option ℕ) → slice_get events i ≡ Some e → old ≡ earliest (named_at mark events (before + 1 + k)) i → noted_in before (named mark e) i k old ≡ earliest (named_at mark events (before + 1 + k)) (i + 1)
noted_more mark events before k i e old there is =
    noted_is before i k (named mark e) old
    ∙ ap (λ o. option_or o (if is_named mark (before + 1 + k) e then Some i else None)) is
    ∙ ap (λ o. option_or (earliest (named_at mark events (before + 1 + k)) i) (option_and_then (λ x. if is_named mark (before + 1 + k) x then Some i else None) o)) (sym there)
    ∙ sym (earliest_more (named_at mark events (before + 1 + k)) i)

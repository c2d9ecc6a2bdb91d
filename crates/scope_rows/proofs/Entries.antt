-- What is written into a list that goes by numbers.
use Rattle.std.proofs.Common.{ℕ, ◌∙◌, ◌≡◌, ap, length, set}
use Rattle.scope_rows.specs.{Entries, HasEntry, place_of, with_entry}
use Rattle.scope_rows.proofs.{Altering.altered_set, Places.place_within}

-- what is written at the number's place is its entry
pub entry_written : {R : Type 0} (v t : Entries R) (n at : ℕ) (x : R) → v ≡ t → at ≡ place_of t.before n → HasEntry t n → record v { items = set v.items at x } ≡ with_entry t n x
entry_written v t n at x same place has =
    let there = place_within t.before (length t.items) n has.0 has.1 in
    ap (λ (u : Entries _). record u { items = set u.items at x }) same
    ∙ (ap (λ i. record t { items = set t.items i x }) place ∙ ap (λ xs. record t { items = xs }) (altered_set t.items (place_of t.before n) x there))

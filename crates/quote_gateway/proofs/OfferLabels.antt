-- The labels of a plan's offers, one by one.
use Rattle.std.specs.Prelude.{◌++◌, ◌+◌, ◌∷◌, ◌≡◌, ◌≤◌}
use Rattle.quote_gateway.specs.{[], ℕ, List, Named, None, Some, label_of, map}
use Rattle.quote_gateway.proofs.Words.{add-one, ap, length, refl, slice_get, suc, take, take_all, zero}

one_more : (offers : List Named) (i : ℕ) (named : Named) → slice_get offers i ≡ Some named → map label_of (take (suc i) offers) ≡ map label_of (take i offers) ++ label_of named ∷ []
one_more [] i named at = absurd cc
one_more (e ∷ es) zero named at =
    let same : e ≡ named = cc in
    ap (λ x. label_of x ∷ []) same
one_more (e ∷ es) (suc i) named at = ap (λ l. label_of e ∷ l) (one_more es i named at)

pub one_label : (offers : List Named) (i : ℕ) (named : Named) → slice_get offers i ≡ Some named → map label_of (take (i + 1) offers) ≡ map label_of (take i offers) ++ label_of named ∷ []
one_label offers i named at = rw add-one (one_more offers i named at)

none_more : (offers : List Named) (i : ℕ) → slice_get offers i ≡ None → map label_of (take (suc i) offers) ≡ map label_of (take i offers)
none_more [] zero none = refl
none_more [] (suc i) none = refl
none_more (e ∷ es) zero none = absurd cc
none_more (e ∷ es) (suc i) none = ap (λ l. label_of e ∷ l) (none_more es i none)

pub no_label : (offers : List Named) (i : ℕ) → slice_get offers i ≡ None → map label_of (take (i + 1) offers) ≡ map label_of (take i offers)
no_label offers i none = rw add-one (none_more offers i none)

pub all_labels : (offers : List Named) (i : ℕ) → length offers ≤ i → map label_of (take i offers) ≡ map label_of offers
all_labels offers i past = ap (map label_of) (take_all i offers past)

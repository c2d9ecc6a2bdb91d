-- What comes next among the words of an `open`.
use Rattle.std.proofs.Common.{[], ℕ, ◌∙◌, ◌∷◌, ◌≡◌, List, None, Option, Some, ap, refl, sym}
use Rattle.script_words.specs.{first_and_rest, next_said}
use Rattle.script_words.proofs.Lemmas.{some_pair_parts}

-- the fields are the first and the rest
taken : (fs : List (List ℕ)) (word : List ℕ) (others : List (List ℕ)) → Some (word, others) ≡ first_and_rest fs → fs ≡ word ∷ others
taken [] word others first = absurd cc
taken (w ∷ ws) word others first =
    let parts = some_pair_parts word w others ws first in
    ap (λ v. v ∷ ws) (sym parts.0) ∙ ap (λ vs. word ∷ vs) (sym parts.1)

none_left : (fs : List (List ℕ)) → None ≡ first_and_rest fs → fs ≡ []
none_left [] none = refl
none_left (w ∷ ws) none = absurd cc

-- the next word, whatever it is to say
pub at_end : {A : Type 0} (without : A) (said : List ℕ → Option A) (fs : List (List ℕ)) → None ≡ first_and_rest fs → (without, fs) ≡ next_said without said fs
unfolding next_said
at_end without said fs none = let same = none_left fs none in rw same refl

pub found : {A : Type 0} (without : A) (said : List ℕ → Option A) (fs : List (List ℕ)) (word : List ℕ) (others : List (List ℕ)) (a : A) → Some (word, others) ≡ first_and_rest fs → said word ≡ Some a → (a, others) ≡ next_said without said fs
unfolding next_said
found without said fs word others a first is =
    let same = taken fs word others first in
    rw same (rw is refl)

pub left_out : {A : Type 0} (without : A) (said : List ℕ → Option A) (fs : List (List ℕ)) (word : List ℕ) (others : List (List ℕ)) → Some (word, others) ≡ first_and_rest fs → said word ≡ None → (without, fs) ≡ next_said without said fs
unfolding next_said
left_out without said fs word others first is =
    let same = taken fs word others first in
    rw same (rw is refl)

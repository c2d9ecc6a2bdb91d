-- Where a text is cut first.
use Rattle.std.specs.Prelude.{◌++◌, ◌+◌, ◌<◌, ◌∷◌, ◌≡◌, ◌≤◌}
use Rattle.quote_plan.specs.{[], ℕ, Bool, CutsLine, HasNoFeed, List, None, Some, false, get_or, is_feed, length, nat_lt, position, position_or_len, slice_split, take}
use Rattle.quote_plan.specs.{true}
use Rattle.quote_plan.proofs.Words.{◌∙◌, ap, arith, cond, drop, fails_before_first, get_or-take, length-take-le, ltb-false, nat_tests, position-Some, position_or_len_is, refl, slice_split-cons_no}
use Rattle.quote_plan.proofs.Words.{slice_split_first, split_at_first, subst}

module _ (p : ℕ → Bool) where
  -- the place is within, or the length
  none_within : (n m : ℕ) (within : Bool) → nat_lt n m ≡ within → cond within (Some n) None ≡ None → m ≤ n
  none_within n m true is none = absurd cc
  none_within n m false is none = ltb-false n m is

  uncut_at : (b : ℕ) (bs : List ℕ) (here : Bool) → p b ≡ here → length (b ∷ bs) ≤ position_or_len p (b ∷ bs) → (here ≡ false) × (length bs ≤ position_or_len p bs)
  uncut_at b bs true at past = absurd (let first : position_or_len p (b ∷ bs) ≡ 0 = rw at refl in omega (arith, first))
  uncut_at b bs false at past = (refl, let later : position_or_len p (b ∷ bs) ≡ position_or_len p bs + 1 = rw at (omega arith) in omega (arith, later))

  uncut_past : (bs : List ℕ) → length bs ≤ position_or_len p bs → slice_split p bs ≡ bs ∷ []
  uncut_past [] past = refl
  uncut_past (b ∷ bs) past =
      let rest = uncut_at b bs (p b) refl past in
      slice_split-cons_no p b bs rest.0 ∙ rw (uncut_past bs rest.1) refl

  -- no byte passes: the text is one piece
  pub uncut : (bs : List ℕ) → position p bs ≡ None → slice_split p bs ≡ bs ∷ []
  uncut bs none =
      uncut_past bs (none_within (position_or_len p bs) (length bs) (nat_lt (position_or_len p bs) (length bs)) refl none)

  pub cut_within : (bs : List ℕ) (n : ℕ) → position p bs ≡ Some n → n < length bs
  cut_within bs n is = (position-Some p bs n 0 is).0

  -- the first piece ends at the first byte that passes
  pub cut_first : (bs : List ℕ) (n : ℕ) → position p bs ≡ Some n → slice_split p bs ≡ take n bs ∷ slice_split p (drop (n + 1) bs)
  cut_first bs n is =
      let found = position-Some p bs n 0 is in
      let place : position_or_len p bs ≡ n = position_or_len_is p bs n 0 (omega (arith, found.0)) found.2 (λ _. found.1) in
      let within : position_or_len p bs < length bs = rw place found.0 in
      subst (λ (k : ℕ). slice_split p bs ≡ take k bs ∷ slice_split p (drop (k + 1) bs)) place (slice_split_first p bs 0 within)

-- ---- line feeds

-- where none stands
pub no_feed : (bs : List ℕ) → position is_feed bs ≡ None → HasNoFeed bs
no_feed bs none = λ k d within.
    (let past = none_within is_feed (position_or_len is_feed bs) (length bs) (nat_lt (position_or_len is_feed bs) (length bs)) refl none in
    fails_before_first is_feed bs k d (omega (arith, past)))

is_ten : (b : ℕ) → is_feed b ≡ true → b ≡ 10
is_ten b is = grind (arith, nat_tests)

-- the line before the first one, and what comes after it
pub cut_at : (bs : List ℕ) (n : ℕ) → position is_feed bs ≡ Some n → CutsLine bs (take n bs) (drop (n + 1) bs)
cut_at bs n is =
    let found = position-Some is_feed bs n 0 is in
    let place : position_or_len is_feed bs ≡ n = position_or_len_is is_feed bs n 0 (omega (arith, found.0)) found.2 (λ _. found.1) in
    let within : position_or_len is_feed bs < length bs = rw place found.0 in
    let parts = split_at_first is_feed bs 0 within in
    let cut : bs ≡ take n bs ++ get_or bs n 0 ∷ drop (n + 1) bs = subst (λ k. bs ≡ take k bs ++ get_or bs k 0 ∷ drop (k + 1) bs) place parts in
    record {
      whole = cut ∙ ap (λ b. take n bs ++ b ∷ drop (n + 1) bs) (is_ten (get_or bs n 0) found.1);
      unended = λ k d below.
          (let before : k < n = omega (arith, below, length-take-le n bs (omega (arith, found.0))) in
          ap is_feed (get_or-take n bs k d before) ∙ (position-Some is_feed bs n d is).2 k before);
    }

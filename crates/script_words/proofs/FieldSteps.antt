-- How the fields of a text begin.
use Rattle.std.proofs.Common.{[], ℕ, ◌<◌, ◌∙◌, ◌∷◌, ◌≡◌, ◌≢◌, ◌≤◌, Bool, List, None, Some, ap, arith, drop, false, get_or, length, refl, suc, sym, take, true, zero}
use Rattle.script_words.specs.{fields, filter, first_and_rest, is_field, is_space, onto_first, position_or_len, slice_split, without_spaces}
use Rattle.script_words.proofs.Lemmas.{nat_tests, position_or_len_is}

without_spaces_no : (b : ℕ) (bs : List ℕ) → is_space b ≡ false → without_spaces (b ∷ bs) ≡ b ∷ bs
unfolding without_spaces
without_spaces_no b bs is = rw is refl

-- spaces in front are no fields
skip_at : (b : ℕ) (bs : List ℕ) (space : Bool) → is_space b ≡ space → fields (without_spaces bs) ≡ fields bs → fields (without_spaces (b ∷ bs)) ≡ fields (b ∷ bs)
unfolding fields without_spaces
skip_at b bs true is others = rw is others
skip_at b bs false is others = ap fields (without_spaces_no b bs is)

pub fields_skip : (text : List ℕ) → fields (without_spaces text) ≡ fields text
unfolding without_spaces
fields_skip [] = refl
fields_skip (b ∷ bs) = skip_at b bs (is_space b) refl (fields_skip bs)

-- the first space stands one later
place_no : (b : ℕ) (bs : List ℕ) → is_space b ≡ false → position_or_len is_space (b ∷ bs) ≡ suc (position_or_len is_space bs)
place_no b bs is = rw is (omega arith)

-- where a text is cut first
record FirstCut (text : List ℕ) (parts : List (List ℕ)) : Type 0 where
  front : slice_split is_space text ≡ take (position_or_len is_space text) text ∷ parts
  others : fields (drop (position_or_len is_space text) text) ≡ filter is_field parts

cut_no : (b : ℕ) (bs : List ℕ) (parts : List (List ℕ)) → is_space b ≡ false → FirstCut bs parts → FirstCut (b ∷ bs) parts
cut_no b bs parts is cut =
    let place = place_no b bs is in
    let split : slice_split is_space (b ∷ bs) ≡ onto_first b (slice_split is_space bs) = rw is refl in
    record {
      front = rw place (split ∙ ap (onto_first b) cut.front);
      others = rw place cut.others;
    }

cut_at : (b : ℕ) (bs : List ℕ) (space : Bool) → is_space b ≡ space → (parts : List (List ℕ)) → FirstCut bs parts → (more : List (List ℕ)) × FirstCut (b ∷ bs) more
unfolding fields
cut_at b bs true is parts cut =
    let place : position_or_len is_space (b ∷ bs) ≡ 0 = rw is refl in
    let split : slice_split is_space (b ∷ bs) ≡ [] ∷ slice_split is_space bs = rw is refl in
    (slice_split is_space bs, record { front = rw place split; others = rw place (ap (filter is_field) split) })
cut_at b bs false is parts cut = (parts, cut_no b bs parts is cut)

first_cut : (text : List ℕ) → (parts : List (List ℕ)) × FirstCut text parts
unfolding fields
first_cut [] = ([], record { front = refl; others = refl })
first_cut (b ∷ bs) = let below = first_cut bs in cut_at b bs (is_space b) refl below.0 below.1

-- the first field ends before the first space
pub fields_first : (b : ℕ) (bs : List ℕ) → is_space b ≡ false → fields (b ∷ bs) ≡ take (position_or_len is_space (b ∷ bs)) (b ∷ bs) ∷ fields (drop (position_or_len is_space (b ∷ bs)) (b ∷ bs))
unfolding fields
fields_first b bs is =
    let cut = first_cut (b ∷ bs) in
    let place = place_no b bs is in
    let field : is_field (take (position_or_len is_space (b ∷ bs)) (b ∷ bs)) ≡ true = rw place refl in
    ap (filter is_field) cut.1.front ∙ rw field (rw cut.1.others refl)

-- what is left begins with no space
stops_at : (c : ℕ) (cs : List ℕ) (space : Bool) → is_space c ≡ space → ((b : ℕ) (bs : List ℕ) → without_spaces cs ≡ b ∷ bs → is_space b ≡ false) → (b : ℕ) (bs : List ℕ) → without_spaces (c ∷ cs) ≡ b ∷ bs → is_space b ≡ false
unfolding without_spaces
stops_at c cs true is below b bs begins =
    let step : without_spaces (c ∷ cs) ≡ without_spaces cs = rw is refl in
    below b bs (sym step ∙ begins)
stops_at c cs false is below b bs begins =
    let same : c ∷ cs ≡ b ∷ bs = sym (without_spaces_no c cs is) ∙ begins in
    let first : c ≡ b = grind arith in
    rw first at is

stops : (text : List ℕ) → (b : ℕ) (bs : List ℕ) → without_spaces text ≡ b ∷ bs → is_space b ≡ false
unfolding without_spaces
stops [] b bs begins = absurd cc
stops (c ∷ cs) b bs begins = stops_at c cs (is_space c) refl (stops cs) b bs begins

-- only spaces
pub next_none : (text rest : List ℕ) → rest ≡ without_spaces text → length rest ≡ 0 → None ≡ first_and_rest (fields text)
unfolding fields
next_none text [] is none =
    let all : fields text ≡ fields [] = sym (fields_skip text) ∙ ap fields (sym is) in
    rw all refl
next_none text (b ∷ bs) is none = absurd (omega (arith, none))

-- a first field
pub next_some : (text rest front back : List ℕ) (n : ℕ) → rest ≡ without_spaces text → length rest ≢ 0 → n ≡ position_or_len is_space rest → front ≡ take n rest → back ≡ drop n rest → Some (front, fields back) ≡ first_and_rest (fields text)
next_some text [] front back n is some place head tail = absurd (some refl)
next_some text (b ∷ bs) front back n is some place head tail =
    let all : fields text ≡ fields (b ∷ bs) = sym (fields_skip text) ∙ ap fields (sym is) in
    let first = fields_first b bs (stops text b bs (sym is)) in
    rw all (rw first (rw head (rw tail (rw place refl))))

-- where the first space stands
no_space : (b : ℕ) → b ≢ 32 → is_space b ≡ false
no_space b other = grind (arith, nat_tests)

pub first_space : (text : List ℕ) (n : ℕ) → n ≤ length text → ((k : ℕ) → k < n → get_or text k 0 ≢ 32) → (n < length text → get_or text n 0 ≡ 32) → n ≡ position_or_len is_space text
first_space text n within before here =
    let at : n < length text → is_space (get_or text n 0) ≡ true = λ h. let e = here h in rw e refl in
    sym (position_or_len_is is_space text n 0 within (λ k h. no_space _ (before k h)) at)

-- the first space is behind as many bytes as are none
pub no_space_before : (text : List ℕ) (n : ℕ) → n ≤ length text → ((k : ℕ) → k < n → get_or text k 0 ≢ 32) → n ≤ position_or_len is_space text
no_space_before text zero within none = omega arith
no_space_before [] (suc n) within none = absurd (omega (arith, within))
no_space_before (b ∷ bs) (suc n) within none =
    let place = place_no b bs (no_space b (none 0 (omega arith))) in
    let others = no_space_before bs n (omega (arith, within)) (λ k h. none (suc k) (omega (arith, h))) in
    omega (arith, place, others)

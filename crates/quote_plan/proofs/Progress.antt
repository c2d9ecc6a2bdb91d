-- How far the reading of a plan has come.
use Rattle.std.specs.Prelude.{◌++◌, ◌+◌, ◌<◌, ◌==◌, ◌∷◌, ◌≡◌, ◌≤◌}
use Rattle.quote_plan.specs.{[], ℕ, AreGood, FirstBad, IsSome, IsTrue, List, None, Option, PlanLine, PlanValue, ReadingValue, RefusedAt, SayPlan, Some}
use Rattle.quote_plan.specs.{cons_option, cut_said, false, filter_map, get_or, is_feed, is_good, length, line_said, lines_of, may_come, may_follow, mode_in, modes_in, offer_in, offers_in}
use Rattle.quote_plan.specs.{option_to_list, pieces_said, slice_split, take, true, with_line}
use Rattle.quote_plan.proofs.Words.{◌∙◌, ap, append-nil, append_assoc, arith, below_more, eqb-true, filter_map-append, get_or-append, get_or-append_seam, inl, inr, length-append, length-slice_split}
use Rattle.quote_plan.proofs.Words.{refl, suc, sym, take-append-le, take-append_seam}

-- the lines of the bytes are those that were read, which are good, and those of the rest
pub record HasRead (bytes rest : List ℕ) (number : ℕ) (reading : ReadingValue) : Type 0 where
  pub done : List PlanLine
  pub whole : lines_of bytes ≡ done ++ lines_of rest
  pub counted : length done ≡ number
  pub good : AreGood done (length done)
  pub modes : modes_in done ≡ reading.modes
  pub offers : offers_in done ≡ reading.offers

pub nothing_read : (bytes : List ℕ) (reading : ReadingValue) → reading.modes ≡ [] → reading.offers ≡ [] → HasRead bytes bytes 0 reading
unfolding modes_in offers_in
nothing_read bytes reading modes offers = record { done = []; whole = refl; counted = refl; good = λ k h. absurd (omega arith); modes = sym modes; offers = sym offers }

-- one more line
pub more_pieces : (piece : List ℕ) (pieces : List (List ℕ)) → 0 < length pieces → pieces_said (piece ∷ pieces) ≡ line_said piece ∷ pieces_said pieces
unfolding pieces_said
more_pieces piece [] some = absurd (omega arith)
more_pieces piece (next ∷ others) some = refl

pub next_line : (rest text others : List ℕ) → slice_split is_feed rest ≡ text ∷ slice_split is_feed others → lines_of rest ≡ line_said text ∷ lines_of others
unfolding lines_of
next_line rest text others cut =
    let some : 0 < length (slice_split is_feed others) = omega (arith, length-slice_split is_feed others) in
    ap pieces_said cut ∙ more_pieces text (slice_split is_feed others) some

-- what is good among some lines is so among more
good_at : (done more : List PlanLine) (k : ℕ) → k < length done → is_good (done ++ more) k ≡ is_good done k
good_at done more k within =
    let same : take k (done ++ more) ≡ take k done = take-append-le k done more (omega arith) in
    let here : get_or (done ++ more) k PlanLine.BadWord ≡ get_or done k PlanLine.BadWord = get_or-append done more PlanLine.BadWord k within in
    rw (same, here) refl

pub still_good : (done more : List PlanLine) (n : ℕ) → n ≤ length done → AreGood done n → AreGood (done ++ more) n
still_good done more n within good k below = good_at done more k (omega arith) ∙ good k below

-- whether the line after those that were read is good
pub seam : (done more : List PlanLine) (said : PlanLine) → is_good (done ++ said ∷ more) (length done) ≡ may_follow (modes_in done) (offers_in done) said
seam done more said =
    let same : take (length done) (done ++ said ∷ more) ≡ done = take-append_seam done (said ∷ more) in
    let here : get_or (done ++ said ∷ more) (length done) PlanLine.BadWord ≡ said = get_or-append_seam done said more PlanLine.BadWord in
    rw (same, here) refl

listed : {A : Type 0} (o : Option A) → cons_option o [] ≡ option_to_list o
listed None = refl
listed (Some x) = refl

pub one_more : {A : Type 0} (in_line : PlanLine → Option A) (done : List PlanLine) (said : PlanLine) (so_far : List A) → filter_map in_line done ≡ so_far → filter_map in_line (done ++ said ∷ []) ≡ so_far ++ option_to_list (in_line said)
one_more in_line done said so_far is =
    filter_map-append in_line done (said ∷ []) ∙ (ap (λ l. l ++ cons_option (in_line said) []) is ∙ ap (λ l. so_far ++ l) (listed (in_line said)))

module _ (bytes rest : List ℕ) (number : ℕ) (reading : ReadingValue) (so_far : HasRead bytes rest number reading) where
  comes : (said : PlanLine) → may_follow (modes_in so_far.done) (offers_in so_far.done) said ≡ may_come reading said
  comes said = rw (so_far.modes, so_far.offers) refl

  module _ (said : PlanLine) (more : List PlanLine) (split : lines_of rest ≡ said ∷ more) where
    all_lines : lines_of bytes ≡ so_far.done ++ said ∷ more
    all_lines = so_far.whole ∙ ap (λ l. so_far.done ++ l) split

    tested : is_good (lines_of bytes) number ≡ may_come reading said
    tested = rw (all_lines, sym so_far.counted) (seam so_far.done more said ∙ comes said)

    good_before : AreGood (lines_of bytes) number
    good_before k below =
        rw all_lines (still_good so_far.done (said ∷ more) (length so_far.done) (omega arith) so_far.good k (omega (arith, so_far.counted)))

    within : number < length (lines_of bytes)
    within = omega (arith, ap length all_lines, length-append so_far.done (said ∷ more), so_far.counted)

    pub first_bad : may_come reading said ≡ false → FirstBad (lines_of bytes) (number + 1)
    first_bad bad = record { before = number; counted = refl; good = good_before; bad = inl (within, tested ∙ bad) }

    pub refused : IsTrue (may_come reading said) → IsSome (offer_in said) → RefusedAt (lines_of bytes)
    refused good offer = record {
      before = number;
      within = within;
      good = below_more _ _ good_before (tested ∙ good);
      offer = rw (all_lines, sym so_far.counted, get_or-append_seam so_far.done said more PlanLine.BadWord) offer;
    }

    -- the reading goes on
    pub goes_on : (others : List ℕ) (after : ReadingValue) → lines_of others ≡ more → may_come reading said ≡ true → after ≡ with_line reading said → HasRead bytes others (number + 1) after
    unfolding modes_in offers_in
    goes_on others after left good is =
        let done : List PlanLine = so_far.done ++ said ∷ [] in
        let counted : length done ≡ length so_far.done + 1 = omega (arith, length-append so_far.done (said ∷ [])) in
        record {
          done = done;
          whole = all_lines ∙ (sym (append_assoc so_far.done (said ∷ []) more) ∙ ap (λ l. done ++ l) (sym left));
          counted = counted ∙ ap (λ n. n + 1) so_far.counted;
          good =
              rw counted (below_more _ _ (still_good so_far.done (said ∷ []) (length so_far.done) (omega arith) so_far.good) (seam so_far.done [] said ∙ comes said ∙ good));
          modes = one_more mode_in so_far.done said reading.modes so_far.modes ∙ sym (ap (λ (r : ReadingValue). r.modes) is);
          offers = one_more offer_in so_far.done said reading.offers so_far.offers ∙ sym (ap (λ (r : ReadingValue). r.offers) is);
        }

  -- nothing is left
  module _ (left : lines_of rest ≡ []) where
    all_done : lines_of bytes ≡ so_far.done
    all_done = so_far.whole ∙ (ap (λ l. so_far.done ++ l) left ∙ append-nil so_far.done)

    pub no_mode : reading.modes ≡ [] → FirstBad (lines_of bytes) (number + 1)
    no_mode none = record {
      before = number;
      counted = refl;
      good = rw (all_done, sym so_far.counted) so_far.good;
      bad = inr (sym so_far.counted ∙ ap length (sym all_done), ap modes_in all_done ∙ (so_far.modes ∙ none));
    }

    pub all_said : (plan : PlanValue) → reading.modes ≡ plan.mode ∷ [] → reading.offers ≡ plan.offers → SayPlan (lines_of bytes) plan
    all_said plan mode offers = record {
      good = rw all_done so_far.good;
      mode = ap modes_in all_done ∙ (so_far.modes ∙ mode);
      offers = ap offers_in all_done ∙ (so_far.offers ∙ offers);
    }

-- what is left after the last line feed
left_alone : (rest : List ℕ) → slice_split is_feed rest ≡ rest ∷ [] → lines_of rest ≡ cut_said rest
unfolding lines_of pieces_said
left_alone rest alone = ap pieces_said alone

some_cut : (rest : List ℕ) → (length rest == 0) ≡ false → cut_said rest ≡ PlanLine.BadWord ∷ []
some_cut [] some = absurd cc
some_cut (b ∷ bs) some = refl

none_cut : (rest : List ℕ) → (length rest == 0) ≡ true → cut_said rest ≡ []
none_cut [] none = refl
none_cut (b ∷ bs) none = absurd (omega (arith, eqb-true (suc (length bs)) 0 none))

-- a line that was cut is a bad word
pub cut_line : (rest : List ℕ) → slice_split is_feed rest ≡ rest ∷ [] → (length rest == 0) ≡ false → lines_of rest ≡ PlanLine.BadWord ∷ []
cut_line rest alone some = left_alone rest alone ∙ some_cut rest some

pub no_line : (rest : List ℕ) → slice_split is_feed rest ≡ rest ∷ [] → (length rest == 0) ≡ true → lines_of rest ≡ []
no_line rest alone none = left_alone rest alone ∙ none_cut rest none

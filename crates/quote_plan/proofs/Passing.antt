-- How the reading of a plan goes on that comes piece by piece.
use Rattle.std.specs.Prelude.{◌++◌, ◌+◌, ◌<◌, ◌==◌, ◌∷◌, ◌≡◌}
use Rattle.quote_plan.specs.{[], ℕ, AreGood, BadWord, CutsLine, FirstBad, HasNoFeed, HasTaken, List, NamesLine, Passed, PlanFault, PlanSoFar, PlanValue, PlanWhy}
use Rattle.quote_plan.specs.{ReadingValue, SayPlan, StandsFor, false, is_feed, is_good, length, line_said, lines_of, long, map, may_come, may_follow, mode_in, modes_in, offer_in, offers_in}
use Rattle.quote_plan.specs.{pieces_said, same, slice_split, true, why_at, why_of, with_line}
use Rattle.quote_plan.proofs.Words.{◌∙◌, All-append, All-nil, ap, append-nil, append_assoc, arith, below_more, eqb-true, length-append, length-map, length-slice_split, map-append, ne_eqb, refl}
use Rattle.quote_plan.proofs.Words.{slice_split_at, slice_split_none, subst, suc, sym}
use Rattle.quote_plan.proofs.Causes.{HasCut, last_cut, why_here, why_there}
use Rattle.quote_plan.proofs.Progress.{HasRead, all_said, cut_line, first_bad, more_pieces, next_line, no_line, no_mode, one_more, seam, still_good}

-- ---- what the pieces say

said_by : (pieces others : List (List ℕ)) → 0 < length others → pieces_said (pieces ++ others) ≡ map line_said pieces ++ pieces_said others
said_by [] others some = refl
said_by (piece ∷ pieces) others some =
    more_pieces piece (pieces ++ others) (omega (arith, length-append pieces others)) ∙ ap (λ l. line_said piece ∷ l) (said_by pieces others some)

module _ (front : List ℕ) (number : ℕ) (reading : ReadingValue) (passed : Passed front number reading) where
  -- whatever comes after them, the lines were read
  as_read : (rest : List ℕ) → HasRead (front ++ rest) rest (length passed.pieces) reading
  unfolding lines_of
  as_read rest = record {
    done = map line_said passed.pieces;
    whole = ap pieces_said (passed.split rest) ∙ said_by passed.pieces (slice_split is_feed rest) (omega (arith, length-slice_split is_feed rest));
    counted = length-map passed.pieces line_said;
    good = subst (AreGood (map line_said passed.pieces)) (sym (length-map passed.pieces line_said)) passed.good;
    modes = passed.modes;
    offers = passed.offers;
  }

  as_cut : (rest : List ℕ) → HasCut (front ++ rest) rest (length passed.pieces)
  as_cut rest = record { passed = passed.pieces; whole = passed.split rest; counted = refl }

  -- ---- at a line that has ended

  module _ (text : List ℕ) (plain : HasNoFeed text) where
    first_piece : (more : List ℕ) → slice_split is_feed (text ++ 10 ∷ more) ≡ text ∷ slice_split is_feed more
    first_piece more = slice_split_at is_feed text 10 more plain refl

    -- it may not come next
    names_rest : (more : List ℕ) → may_come reading (line_said text) ≡ false → FirstBad (lines_of (front ++ (text ++ 10 ∷ more))) number × (why_of reading.modes reading.offers text ≡ why_at (front ++ (text ++ 10 ∷ more)) number)
    names_rest more bad =
        let rest = text ++ 10 ∷ more in (
          subst (FirstBad (lines_of (front ++ rest))) (sym passed.counted)
              (first_bad (front ++ rest) rest (length passed.pieces) reading (as_read rest) (line_said text) (lines_of more) (next_line rest text more (first_piece more)) bad),
          why_here (front ++ rest) rest (length passed.pieces) reading (as_read rest) (as_cut rest) text more (first_piece more) ∙ ap (why_at (front ++ rest)) (sym passed.counted),
        )

    pub names_line : (more : List ℕ) → may_come reading (line_said text) ≡ false → FirstBad (lines_of (front ++ text ++ 10 ∷ more)) number × (why_of reading.modes reading.offers text ≡ why_at (front ++ text ++ 10 ∷ more) number)
    names_line more bad =
        subst (λ b. FirstBad (lines_of b) number × (why_of reading.modes reading.offers text ≡ why_at b number)) (sym (append_assoc front text (10 ∷ more))) (names_rest more bad)

    -- it comes next
    pub passes : (after : ReadingValue) (next : ℕ) → may_come reading (line_said text) ≡ true → after ≡ with_line reading (line_said text) → next ≡ number + 1 → Passed (front ++ text ++ 10 ∷ []) next after
    unfolding modes_in offers_in
    passes after next good is counted =
        let said = line_said text in
        let done = map line_said passed.pieces in
        let all : map line_said (passed.pieces ++ text ∷ []) ≡ done ++ said ∷ [] = map-append line_said passed.pieces (text ∷ []) in
        let one : length (passed.pieces ++ text ∷ []) ≡ length passed.pieces + 1 = omega (arith, length-append passed.pieces (text ∷ [])) in
        let comes : may_follow (modes_in done) (offers_in done) said ≡ may_come reading said = rw (passed.modes, passed.offers) refl in
        let here : is_good (done ++ said ∷ []) (length passed.pieces) ≡ true = subst (λ n. is_good (done ++ said ∷ []) n ≡ true) (length-map passed.pieces line_said) (seam done [] said ∙ (comes ∙ good)) in
        record {
          pieces = passed.pieces ++ text ∷ [];
          split = λ more. ap (slice_split is_feed) (append_assoc (front ++ text) (10 ∷ []) more ∙ append_assoc front text (10 ∷ more))
              ∙ (passed.split (text ++ 10 ∷ more) ∙ (ap (λ p. passed.pieces ++ p) (first_piece more) ∙ sym (append_assoc passed.pieces (text ∷ []) (slice_split is_feed more))));
          counted = omega (arith, counted, passed.counted, one);
          good = rw (all, one) (below_more _ _ (still_good done (said ∷ []) (length passed.pieces) (omega (arith, length-map passed.pieces line_said)) passed.good) here);
          modes = ap modes_in all ∙ (one_more mode_in done said reading.modes passed.modes ∙ sym (ap (λ (r : ReadingValue). r.modes) is));
          offers = ap offers_in all ∙ (one_more offer_in done said reading.offers passed.offers ∙ sym (ap (λ (r : ReadingValue). r.offers) is));
        }

  -- ---- at the end

  pub said_all : (plan : PlanValue) → reading.modes ≡ plan.mode ∷ [] → reading.offers ≡ plan.offers → SayPlan (lines_of (front ++ [])) plan
  said_all plan mode offers = all_said (front ++ []) [] (length passed.pieces) reading (as_read []) (no_line [] refl refl) plan mode offers

  pub said_no_mode : reading.modes ≡ [] → FirstBad (lines_of (front ++ [])) number × (PlanWhy.NoMode ≡ why_at (front ++ []) number)
  said_no_mode none = (
    subst (FirstBad (lines_of (front ++ []))) (sym passed.counted) (no_mode (front ++ []) [] (length passed.pieces) reading (as_read []) (no_line [] refl refl) none),
    why_there (front ++ []) [] (length passed.pieces) reading (as_read []) (as_cut []) refl ∙ ap (why_at (front ++ [])) (sym passed.counted),
  )

  -- a line is begun
  pub said_cut : (begun : List ℕ) → HasNoFeed begun → (length begun == 0) ≡ false → FirstBad (lines_of (front ++ begun)) number × (PlanWhy.NoLineFeed ≡ why_at (front ++ begun) number)
  said_cut begun plain some =
      let alone = slice_split_none is_feed begun plain in (
        subst (FirstBad (lines_of (front ++ begun))) (sym passed.counted) (first_bad (front ++ begun) begun (length passed.pieces) reading (as_read begun) BadWord [] (cut_line begun alone some) refl),
        sym (last_cut begun some) ∙ (why_there (front ++ begun) begun (length passed.pieces) reading (as_read begun) (as_cut begun) alone ∙ ap (why_at (front ++ begun)) (sym passed.counted)),
      )

-- ---- with the begun line

nothing_passed : (reading : ReadingValue) → reading.modes ≡ [] → reading.offers ≡ [] → Passed [] 1 reading
unfolding modes_in offers_in
nothing_passed reading modes offers = record {
  pieces = [];
  split = λ more. refl;
  counted = refl;
  good = λ k h. absurd (omega arith);
  modes = sym modes;
  offers = sym offers;
}

pub nothing_taken : (plan : PlanSoFar) → plan.reading.modes ≡ [] → plan.reading.offers ≡ [] → plan.number ≡ 1 → plan.begun ≡ [] → HasTaken plan []
nothing_taken plan modes offers first none = record {
  front = [];
  line = [];
  whole = refl;
  passed = subst (λ n. Passed [] n plan.reading) (sym first) (nothing_passed plan.reading modes offers);
  unended = All-nil (λ b. is_feed b ≡ false);
  kept = same none;
}

module _ (before : PlanSoFar) (bytes : List ℕ) (taken : HasTaken before bytes) where
  -- the line that ends with the text
  ends_with : (text more : List ℕ) → taken.front ++ (taken.line ++ text) ++ more ≡ bytes ++ text ++ more
  ends_with text more = ap (λ b. b ++ more) (sym (append_assoc taken.front taken.line text) ∙ ap (λ b. b ++ text) (sym taken.whole))

  -- which is plain, as its parts are
  pub line_is_plain : (text : List ℕ) → HasNoFeed text → HasNoFeed (taken.line ++ text)
  line_is_plain text plain = All-append (λ b. is_feed b ≡ false) taken.line text taken.unended plain

  pub line_ends : (after : PlanSoFar) (text : List ℕ) → Passed (taken.front ++ (taken.line ++ text) ++ 10 ∷ []) after.number after.reading → after.begun ≡ [] → HasTaken after (bytes ++ text ++ 10 ∷ [])
  line_ends after text passed none = record {
    front = bytes ++ text ++ 10 ∷ [];
    line = [];
    whole = sym (append-nil (bytes ++ text ++ 10 ∷ []));
    passed = subst (λ f. Passed f after.number after.reading) (ends_with text (10 ∷ [])) passed;
    unended = All-nil (λ b. is_feed b ≡ false);
    kept = same none;
  }

  pub line_is_bad : (text more : List ℕ) (fault : PlanFault) → NamesLine (taken.front ++ (taken.line ++ text) ++ 10 ∷ more) fault → NamesLine (bytes ++ text ++ 10 ∷ more) fault
  line_is_bad text more fault names = subst (λ b. NamesLine b fault) (ends_with text (10 ∷ more)) names

  pub line_goes_on : (after : PlanSoFar) (text : List ℕ) → HasNoFeed text → after.number ≡ before.number → after.reading ≡ before.reading → StandsFor after.begun (taken.line ++ text) → HasTaken after (bytes ++ text)
  line_goes_on after text plain number reading stands = record {
    front = taken.front;
    line = taken.line ++ text;
    whole = ap (λ b. b ++ text) taken.whole ∙ append_assoc taken.front taken.line text;
    passed = subst (λ n. Passed taken.front n after.reading) (sym number) (subst (Passed taken.front before.number) (sym reading) taken.passed);
    unended = line_is_plain text plain;
    kept = stands;
  }

  -- no byte is kept just of a line without bytes
  pub line_is_none : before.begun ≡ [] → taken.line ≡ []
  line_is_none none = by taken.line (subst (λ k. StandsFor k taken.line) none taken.kept)
    where
      by : (line : List ℕ) → StandsFor [] line → line ≡ []
      by line (same is) = sym is
      by line (long one other returns tabs) = absurd (omega (arith, one))

  line_is_some : (length before.begun == 0) ≡ false → (length taken.line == 0) ≡ false
  line_is_some some = by before.begun taken.line taken.kept some
    where
      by : (kept line : List ℕ) → StandsFor kept line → (length kept == 0) ≡ false → (length line == 0) ≡ false
      by kept line (same is) some = subst (λ l. (length l == 0) ≡ false) is some
      by kept [] (long one other returns tabs) some = absurd (omega (arith, other))
      by kept (b ∷ line) (long one other returns tabs) some = ne_eqb (length (b ∷ line)) 0 (λ e. absurd (omega (arith, e)))

  -- ---- at the end

  pub ends_well : (plan : PlanValue) → before.begun ≡ [] → before.reading.modes ≡ plan.mode ∷ [] → before.reading.offers ≡ plan.offers → SayPlan (lines_of bytes) plan
  ends_well plan none mode offers =
      subst (λ b. SayPlan (lines_of b) plan) (sym (taken.whole ∙ ap (λ b. taken.front ++ b) (line_is_none none))) (said_all taken.front before.number before.reading taken.passed plan mode offers)

  pub ends_without_mode : before.begun ≡ [] → before.reading.modes ≡ [] → NamesLine bytes (PlanFault.Word before.number PlanWhy.NoMode)
  ends_without_mode none modes =
      subst (λ b. NamesLine b (PlanFault.Word before.number PlanWhy.NoMode)) (sym (taken.whole ∙ ap (λ b. taken.front ++ b) (line_is_none none))) (said_no_mode taken.front before.number before.reading taken.passed modes)

  pub ends_cut : (length before.begun == 0) ≡ false → NamesLine bytes (PlanFault.Word before.number PlanWhy.NoLineFeed)
  ends_cut some =
      subst (λ b. NamesLine b (PlanFault.Word before.number PlanWhy.NoLineFeed)) (sym taken.whole) (said_cut taken.front before.number before.reading taken.passed taken.line taken.unended (line_is_some some))

-- ---- a piece

-- the bytes of the piece before the rest were taken
pub record SoFar (before now : PlanSoFar) (piece rest : List ℕ) : Type 0 where
  pub done : List ℕ
  pub whole : piece ≡ done ++ rest
  pub taken : (bytes : List ℕ) → HasTaken before bytes → HasTaken now (bytes ++ done)

pub none_so_far : (before : PlanSoFar) (piece : List ℕ) → SoFar before before piece piece
none_so_far before piece = record { done = []; whole = refl; taken = λ bytes t. subst (HasTaken before) (sym (append-nil bytes)) t }

module _ (before now : PlanSoFar) (piece rest text others : List ℕ) (so_far : SoFar before now piece rest) (cut : CutsLine rest text others) where
  pub line_more : (next : PlanSoFar) → ((bytes : List ℕ) → HasTaken now bytes → HasTaken next (bytes ++ text ++ 10 ∷ [])) → SoFar before next piece others
  line_more next takes = record {
    done = so_far.done ++ (text ++ 10 ∷ []);
    whole = so_far.whole ∙ (ap (λ r. so_far.done ++ r) (cut.whole ∙ sym (append_assoc text (10 ∷ []) others)) ∙ sym (append_assoc so_far.done (text ++ 10 ∷ []) others));
    taken = λ bytes t. subst (HasTaken next) (append_assoc (bytes ++ so_far.done) text (10 ∷ []) ∙ append_assoc bytes so_far.done (text ++ 10 ∷ [])) (takes (bytes ++ so_far.done) (so_far.taken bytes t));
  }

  pub bad_more : (bytes more : List ℕ) (fault : PlanFault) → NamesLine ((bytes ++ so_far.done) ++ text ++ 10 ∷ (others ++ more)) fault → NamesLine (bytes ++ piece ++ more) fault
  bad_more bytes more fault names =
      let tail : text ++ 10 ∷ (others ++ more) ≡ rest ++ more = sym (append_assoc text (10 ∷ others) more) ∙ ap (λ r. r ++ more) (sym cut.whole) in
      let whole : (bytes ++ so_far.done) ++ text ++ 10 ∷ (others ++ more) ≡ bytes ++ piece ++ more =
      append_assoc (bytes ++ so_far.done) text (10 ∷ (others ++ more)) ∙ (ap (λ r. (bytes ++ so_far.done) ++ r) tail
      ∙ (sym (append_assoc (bytes ++ so_far.done) rest more) ∙ ap (λ b. b ++ more) (append_assoc bytes so_far.done rest ∙ ap (λ p. bytes ++ p) (sym so_far.whole)))) in
      subst (λ b. NamesLine b fault) whole names

pub rest_begun : (before now after : PlanSoFar) (piece rest : List ℕ) → SoFar before now piece rest → HasNoFeed rest → after.number ≡ now.number → after.reading ≡ now.reading → ((line : List ℕ) → StandsFor now.begun line → StandsFor after.begun (line ++ rest))
    → (bytes : List ℕ) → HasTaken before bytes → HasTaken after (bytes ++ piece)
rest_begun before now after piece rest so_far plain number reading stands bytes t =
    let so = so_far.taken bytes t in
    subst (HasTaken after) (append_assoc bytes so_far.done rest ∙ ap (λ p. bytes ++ p) (sym so_far.whole)) (line_goes_on now (bytes ++ so_far.done) so after rest plain number reading (stands so.line so.kept))

pub no_bytes : (bytes : List ℕ) → (length bytes == 0) ≡ true → bytes ≡ []
no_bytes [] none = refl
no_bytes (b ∷ bytes) none = absurd (omega (arith, eqb-true (suc (length bytes)) 0 none))

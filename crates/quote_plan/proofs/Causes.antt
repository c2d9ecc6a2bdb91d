-- Why the line that the reading of a plan has come to is a bad one.
use Rattle.std.specs.Prelude.{◌++◌, ◌+◌, ◌-◌, ◌<◌, ◌==◌, ◌∷◌, ◌≡◌}
use Rattle.quote_plan.specs.{[], ℕ, List, PlanLine, PlanWhy, ReadingValue, false, is_feed, length, lines_of, modes_in, nat_lt, offers_in, slice_split, take, true}
use Rattle.quote_plan.specs.{why_at, why_of, why_of_last, why_of_piece}
use Rattle.quote_plan.proofs.Words.{◌∙◌, ap, append_assoc, arith, eqb-true, get_or-append_seam, le-ltb, length-append, length-slice_split, lt-ltb, refl, suc, sym, take-append_seam}
use Rattle.quote_plan.proofs.Progress.{HasRead}

-- the pieces of the bytes are those that were passed, so many, and those of the rest
pub record HasCut (bytes rest : List ℕ) (number : ℕ) : Type 0 where
  pub passed : List (List ℕ)
  pub whole : slice_split is_feed bytes ≡ passed ++ slice_split is_feed rest
  pub counted : length passed ≡ number

pub nothing_cut : (bytes : List ℕ) → HasCut bytes bytes 0
nothing_cut bytes = record { passed = []; whole = refl; counted = refl }

module _ (bytes rest : List ℕ) (number : ℕ) (so_far : HasCut bytes rest number) where
  all_pieces : (pieces : List (List ℕ)) → slice_split is_feed rest ≡ pieces → slice_split is_feed bytes ≡ so_far.passed ++ pieces
  all_pieces pieces cut = so_far.whole ∙ ap (λ l. so_far.passed ++ l) cut

  -- one more piece
  pub cut_on : (text others : List ℕ) → slice_split is_feed rest ≡ text ∷ slice_split is_feed others → HasCut bytes others (number + 1)
  cut_on text others cut = record {
    passed = so_far.passed ++ text ∷ [];
    whole = all_pieces _ cut ∙ sym (append_assoc so_far.passed (text ∷ []) (slice_split is_feed others));
    counted = omega (arith, length-append so_far.passed (text ∷ []), so_far.counted);
  }

-- whether a piece is the last
inner_piece : (passed : List (List ℕ)) (text : List ℕ) (others : List (List ℕ)) (lines : List PlanLine) → 0 < length others → why_of_piece (passed ++ text ∷ others) lines (length passed) ≡ why_of (modes_in (take (length passed) lines)) (offers_in (take (length passed) lines)) text
inner_piece passed text others lines some =
    let within : nat_lt (length passed + 1) (length (passed ++ text ∷ others)) ≡ true = lt-ltb (length passed + 1) (length (passed ++ text ∷ others)) (omega (arith, length-append passed (text ∷ others))) in
    rw (within, get_or-append_seam passed text others []) refl

last_piece : (passed : List (List ℕ)) (text : List ℕ) (lines : List PlanLine) → why_of_piece (passed ++ text ∷ []) lines (length passed) ≡ why_of_last text
last_piece passed text lines =
    let past : nat_lt (length passed + 1) (length (passed ++ text ∷ [])) ≡ false = le-ltb (length passed + 1) (length (passed ++ text ∷ [])) (omega (arith, length-append passed (text ∷ []))) in
    rw (past, get_or-append_seam passed text [] []) refl

-- the cause at the line after those that were passed
at_piece : (bytes : List ℕ) (number : ℕ) (pieces : List (List ℕ)) (lines : List PlanLine) → slice_split is_feed bytes ≡ pieces → lines_of bytes ≡ lines → why_at bytes (number + 1) ≡ why_of_piece pieces lines number
unfolding why_at
at_piece bytes number pieces lines cut said =
    let before : number + 1 - 1 ≡ number = omega arith in
    rw (before, cut, said) refl

module _ (bytes rest : List ℕ) (number : ℕ) (reading : ReadingValue) (read : HasRead bytes rest number reading) (cut : HasCut bytes rest number) where
  -- a line that a line feed ends
  pub why_here : (text others : List ℕ) → slice_split is_feed rest ≡ text ∷ slice_split is_feed others → why_of reading.modes reading.offers text ≡ why_at bytes (number + 1)
  why_here text others first =
      let some : 0 < length (slice_split is_feed others) = omega (arith, length-slice_split is_feed others) in
      let before : take (length cut.passed) (lines_of bytes) ≡ read.done = rw (read.whole, cut.counted, sym read.counted) (take-append_seam read.done (lines_of rest)) in
      let there = inner_piece cut.passed text (slice_split is_feed others) (lines_of bytes) some in
      let said : why_of (modes_in (take (length cut.passed) (lines_of bytes))) (offers_in (take (length cut.passed) (lines_of bytes))) text ≡ why_of reading.modes reading.offers text =
      rw (before, read.modes, read.offers) refl in
      let here : why_at bytes (number + 1) ≡ why_of_piece (cut.passed ++ text ∷ slice_split is_feed others) (lines_of bytes) (length cut.passed) =
      at_piece bytes number _ _ (all_pieces bytes rest number cut _ first) refl ∙ ap (λ n. why_of_piece (cut.passed ++ text ∷ slice_split is_feed others) (lines_of bytes) n) (sym cut.counted) in
      sym (here ∙ (there ∙ said))

  -- what no line feed ends
  pub why_there : slice_split is_feed rest ≡ rest ∷ [] → why_of_last rest ≡ why_at bytes (number + 1)
  why_there alone =
      let here : why_at bytes (number + 1) ≡ why_of_piece (cut.passed ++ rest ∷ []) (lines_of bytes) (length cut.passed) =
      at_piece bytes number _ _ (all_pieces bytes rest number cut _ alone) refl ∙ ap (λ n. why_of_piece (cut.passed ++ rest ∷ []) (lines_of bytes) n) (sym cut.counted) in
      sym (here ∙ last_piece cut.passed rest (lines_of bytes))

pub last_cut : (rest : List ℕ) → (length rest == 0) ≡ false → why_of_last rest ≡ PlanWhy.NoLineFeed
last_cut [] some = absurd cc
last_cut (b ∷ bs) some = refl

pub last_none : (rest : List ℕ) → (length rest == 0) ≡ true → why_of_last rest ≡ PlanWhy.NoMode
last_none [] none = refl
last_none (b ∷ bs) none = absurd (omega (arith, eqb-true (suc (length bs)) 0 none))

-- Each move keeps the rule.
use Rattle.std.proofs.Common.{[], ℕ, ◌++◌, ◌∙◌, ◌∷◌, ◌≡◌, ◌≢◌, ◌⊎◌, List, None, Option, Some, ap, false, inl, inr, length, refl, set, subst, suc, sym, true, zero}
use Rattle.share_ledger.specs.{Agrees, Holder, Holding, InHand, IsFresh, IsHeld, IsKept, IsOpening, Keeping, Ledger, LedgerView, Limits, MayAppend, Opening, RealmStep, Rule.Fits, Share, Spent, TokenOf, holding, is_named, is_own}
use Rattle.share_ledger.specs.{keeping, list_any, newly_named, same_holder, with_named}
use Rattle.share_ledger.proofs.Words.{at_set, both_ways, false_from_ne_true, get_elem?, length-set, list_any-push, or_cases, or_from, set_else, some, some-injective, some-ne-none}
use Rattle.share_ledger.proofs.Seats.{absent_elsewhere, absent_unnamed, agrees_more, agrees_whole, at_push, hand_named, hand_seat, hand_stays, hand_without, moved, moved_here, moved_other, moved_still, named_newly, named_still}
use Rattle.share_ledger.proofs.Seats.{same_one}

-- a view that fits fits at the number that its seat has
fits_at : (place : ℕ) (limits : Option Limits) (whole : List RealmStep) (seat : Holder → ℕ) (i j : ℕ) (v w : LedgerView) → i ≡ j → v ≡ w → Fits place limits whole seat i v → Fits place limits whole seat j w
fits_at place limits whole seat i j v w number is fits = subst (λ (u : LedgerView). Fits place limits whole seat j u) is (subst (λ (n : ℕ). Fits place limits whole seat n v) number fits)

-- one seat has a new view, and the others fit still
refit : (views : List LedgerView) (id : ℕ) (w : LedgerView) (place : ℕ) (limits : Option Limits) (whole : List RealmStep) (seat : Holder → ℕ) → Fits place limits whole seat id w → ((i : ℕ) (v : LedgerView) → i ≢ id → get_elem? views i ≡ some v → Fits place limits whole seat i v) → ((who : Holder) → is_named who whole ≡ false → list_any (is_own who) whole ≡ false) → Ledger (set views id w)
refit views id w place limits whole seat here others unnamed = record {
  place = place;
  limits = limits;
  whole = whole;
  seat = seat;
  fits = λ i v at. elim (at_set views id i w v at) [
    | inl same ↦ fits_at place limits whole seat id i w v (sym same.0) same.1 here
    | inr other ↦ others i v other.0 other.1
  ];
  unnamed = unnamed;
}

-- the table at the start
pub opening_holds : Ledger (Opening ∷ [])
opening_holds = record {
  place = 0;
  limits = None;
  whole = [];
  seat = λ who. 0;
  fits = opening_fits;
  unnamed = λ who none. refl;
}
  where
    opening_fits : (i : ℕ) (v : LedgerView) → get_elem? (Opening ∷ []) i ≡ some v → Fits 0 None [] (λ who. 0) i v
    opening_fits zero v at = fits_at 0 None [] (λ who. 0) 0 0 Opening v refl (some-injective Opening v at) (record { at = refl; alone = λ who. refl })
    opening_fits (suc i) v at = absurd (some-ne-none v (sym at))

-- the other seats of a table whose realm has no limits yet
limit_others : (place : ℕ) (limits : Option Limits) (whole : List RealmStep) (seat : Holder → ℕ) (L : Limits) (id i : ℕ) (v : LedgerView) → IsOpening place seat id → i ≢ id → Fits place limits whole seat i v → Fits place (Some L) [] seat i v
limit_others place limits whole seat L id i Opening mine other fits = absurd (other (fits.at ∙ sym mine.at))
limit_others place limits whole seat L id i (Keeping K steps arrived hand) mine other fits = absurd (other (fits.at ∙ sym mine.at))
limit_others place limits whole seat L id i (Holding share) mine other fits = absurd (other (sym fits.at ∙ (mine.alone share.holder ∙ sym mine.at)))
limit_others place limits whole seat L id i Spent mine other fits = tt

pub limit_keeps : (views : List LedgerView) (id : ℕ) (L : Limits) → Ledger views → get_elem? views id ≡ some Opening → Ledger (set views id (keeping L [] (TokenOf 0 ∷ [])))
limit_keeps views id L r at =
    let mine : IsOpening r.place r.seat id = r.fits id Opening at in
    refit views id (keeping L [] (TokenOf 0 ∷ [])) r.place (Some L) [] r.seat
    (record { at = mine.at; limited = refl; all = refl; arriving = tt; taken = (mine.alone (TokenOf 0), refl, tt, tt) })
    (λ i v other there. limit_others r.place r.limits r.whole r.seat L id i v mine other (r.fits i v there))
    (λ who none. refl)

pub look_keeps : (views : List LedgerView) (id : ℕ) (L : Limits) (steps : List RealmStep) (share : Share) (hand : List Holder) → Ledger views → get_elem? views id ≡ some (Keeping L steps (Some share) hand) → Ledger (set views id (keeping L steps (share.holder ∷ hand)))
look_keeps views id L steps share hand r at =
    let mine : IsKept r.place r.limits r.whole r.seat id L steps (Some share) hand = r.fits id _ at in
    refit views id (keeping L steps (share.holder ∷ hand)) r.place r.limits r.whole r.seat
    (record { at = mine.at; limited = mine.limited; all = mine.all; arriving = tt; taken = (mine.arriving.0.at, mine.arriving.0.named, mine.arriving.1, mine.taken) })
    (λ i v other there. r.fits i v there)
    r.unnamed

some_one : (a b : Limits) (o : Option Limits) → o ≡ Some a → o ≡ Some b → a ≡ b
some_one a b o is so = cc

-- what the keeper is told of the share that was handed in
pub look_tells : (views : List LedgerView) (id : ℕ) (L : Limits) (steps : List RealmStep) (share : Share) (hand : List Holder) → Ledger views → get_elem? views id ≡ some (Keeping L steps (Some share) hand) → (share.limits ≡ L) × Agrees share.holder share.seen steps
look_tells views id L steps share hand r at =
    let mine : IsKept r.place r.limits r.whole r.seat id L steps (Some share) hand = r.fits id _ at in
    let held = mine.arriving.0 in
    (some_one share.limits L r.limits held.limited mine.limited, subst (λ (w : List RealmStep). Agrees share.holder share.seen w) (sym mine.all) held.agrees)

-- the other seats, if a share is handed in
hand_in_others : (place : ℕ) (limits : Option Limits) (whole : List RealmStep) (seat : Holder → ℕ) (who : Holder) (id other i : ℕ) (v : LedgerView) → id ≡ place → seat who ≡ other → i ≢ id → i ≢ other → Fits place limits whole seat i v → Fits place limits whole (moved seat who place) i v
hand_in_others place limits whole seat who id other i Opening here there away apart fits = absurd (away (fits.at ∙ sym here))
hand_in_others place limits whole seat who id other i (Keeping K steps arrived hand) here there away apart fits = absurd (away (fits.at ∙ sym here))
hand_in_others place limits whole seat who id other i (Holding share) here there away apart fits = record {
  at = moved_other seat who share.holder place (λ same. apart (sym fits.at ∙ (ap seat same ∙ there))) ∙ fits.at;
  limited = fits.limited;
  agrees = fits.agrees;
  named = fits.named;
}
hand_in_others place limits whole seat who id other i Spent here there away apart fits = tt

pub hand_in_keeps : (views : List LedgerView) (id other : ℕ) (L : Limits) (steps : List RealmStep) (hand : List Holder) (share : Share) → Ledger views → get_elem? views id ≡ some (keeping L steps hand) → (other ≡ id → ⊥) → get_elem? (set views id (Keeping L steps (Some share) hand)) other ≡ some (Holding share) → Ledger (set (set views id (Keeping L steps (Some share) hand)) other Spent)
hand_in_keeps views id other L steps hand share r at apart there =
    let mine : IsKept r.place r.limits r.whole r.seat id L steps None hand = r.fits id _ at in
    let held : IsHeld r.limits r.whole r.seat other share = r.fits other (Holding share) (sym (set_else views id other (Keeping L steps (Some share) hand) apart) ∙ there) in
    let seat' = moved r.seat share.holder r.place in
    let absent = absent_elsewhere r.place r.whole r.seat share.holder hand (λ so. apart (sym held.at ∙ (so ∙ sym mine.at))) mine.taken in
    let arriving : IsHeld r.limits r.whole seat' r.place share = record { at = moved_here r.seat share.holder r.place; limited = held.limited; agrees = held.agrees; named = held.named } in
    let kept : IsKept r.place r.limits r.whole seat' id L steps (Some share) hand = record {
      at = mine.at;
      limited = mine.limited;
      all = mine.all;
      arriving = (arriving, absent);
      taken = hand_stays r.place r.whole r.whole r.seat seat' hand (λ u named. named) (λ u sits. moved_still r.seat share.holder u r.place sits) mine.taken;
    } in
    refit (set views id (Keeping L steps (Some share) hand)) other Spent r.place r.limits r.whole seat' tt
    (λ i v away at'. elim (at_set views id i (Keeping L steps (Some share) hand) v at') [
      | inl same ↦ fits_at r.place r.limits r.whole seat' id i (Keeping L steps (Some share) hand) v (sym same.0) same.1 kept
      | inr else ↦ hand_in_others r.place r.limits r.whole r.seat share.holder id other i v mine.at held.at else.0 away (r.fits i v else.1)
    ])
    r.unnamed

-- the other seats, if a share is given out
give_out_others : (place : ℕ) (limits : Option Limits) (whole : List RealmStep) (seat : Holder → ℕ) (who : Holder) (id n i : ℕ) (v : LedgerView) → id ≡ place → seat who ≡ place → i ≢ id → Fits place limits whole seat i v → Fits place limits whole (moved seat who n) i v
give_out_others place limits whole seat who id n i Opening here there away fits = absurd (away (fits.at ∙ sym here))
give_out_others place limits whole seat who id n i (Keeping K steps arrived hand) here there away fits = absurd (away (fits.at ∙ sym here))
give_out_others place limits whole seat who id n i (Holding share) here there away fits = record {
  at = moved_other seat who share.holder n (λ same. away (sym fits.at ∙ (ap seat same ∙ (there ∙ sym here)))) ∙ fits.at;
  limited = fits.limited;
  agrees = fits.agrees;
  named = fits.named;
}
give_out_others place limits whole seat who id n i Spent here there away fits = tt

pub give_out_keeps : (views : List LedgerView) (id : ℕ) (L : Limits) (steps : List RealmStep) (who : Holder) (hand : List Holder) → Ledger views → get_elem? views id ≡ some (keeping L steps (who ∷ hand)) → Ledger (set views id (keeping L steps hand) ++ holding L who steps ∷ [])
give_out_keeps views id L steps who hand r at =
    let mine : IsKept r.place r.limits r.whole r.seat id L steps None (who ∷ hand) = r.fits id _ at in
    let seat' = moved r.seat who (length views) in
    let kept : IsKept r.place r.limits r.whole seat' id L steps None hand = record {
      at = mine.at;
      limited = mine.limited;
      all = mine.all;
      arriving = tt;
      taken = hand_without r.place r.whole r.seat who (length views) hand mine.taken.2 mine.taken.3;
    } in
    let rest : Ledger (set views id (keeping L steps hand)) = refit views id (keeping L steps hand) r.place r.limits r.whole seat' kept (λ i v away there. give_out_others r.place r.limits r.whole r.seat who id (length views) i v mine.at mine.taken.0 away (r.fits i v there)) r.unnamed in
    let held : IsHeld r.limits r.whole seat' (length views) (record { limits = L; holder = who; seen = steps }) = record {
      at = moved_here r.seat who (length views);
      limited = mine.limited;
      agrees = subst (λ (w : List RealmStep). Agrees who steps w) mine.all (agrees_whole who steps);
      named = mine.taken.1;
    } in
    record {
      place = r.place;
      limits = r.limits;
      whole = r.whole;
      seat = seat';
      fits = λ i v there. elim (at_push (set views id (keeping L steps hand)) (holding L who steps) v i there) [
        | inl old ↦ elim (at_set views id i (keeping L steps hand) v old) [
          | inl same ↦ fits_at r.place r.limits r.whole seat' id i (keeping L steps hand) v (sym same.0) same.1 kept
          | inr else ↦ give_out_others r.place r.limits r.whole r.seat who id (length views) i v mine.at mine.taken.0 else.0 (r.fits i v else.1)
        ]
        | inr new ↦ fits_at r.place r.limits r.whole seat' (length views) i (holding L who steps) v (sym (new.0 ∙ length-set views id (keeping L steps hand))) new.1 held
      ];
      unnamed = r.unnamed;
    }

-- the seats after a step that may name a holder
abbrev seats_after : Option Holder → (Holder → ℕ) → ℕ → Holder → ℕ
seats_after None seat place = seat
seats_after (Some who) seat place = moved seat who place

seated_still : (new : Option Holder) (seat : Holder → ℕ) (place : ℕ) (u : Holder) → seat u ≡ place → seats_after new seat place u ≡ place
seated_still None seat place u sits = sits
seated_still (Some who) seat place u sits = moved_still seat who u place sits

seated_else : (new : Option Holder) (seat : Holder → ℕ) (place : ℕ) (u : Holder) → (new ≡ Some u → ⊥) → seats_after new seat place u ≡ seat u
seated_else None seat place u other = refl
seated_else (Some who) seat place u other = moved_other seat who u place (λ same. other (ap Some (sym same)))

-- the hand after the step
hand_after : (new : Option Holder) (place : ℕ) (whole whole' : List RealmStep) (seat : Holder → ℕ) (hand : List Holder) → ((u : Holder) → is_named u whole ≡ true → is_named u whole' ≡ true) → ((u : Holder) → new ≡ Some u → is_named u whole' ≡ true) → ((u : Holder) → new ≡ Some u → is_named u whole ≡ false) → InHand place whole seat hand → InHand place whole' (seats_after new seat place) (with_named new hand)
hand_after None place whole whole' seat hand still named unnamed taken = hand_stays place whole whole' seat seat hand still (λ u sits. sits) taken
hand_after (Some who) place whole whole' seat hand still named unnamed taken =
    (moved_here seat who place, named who refl, absent_unnamed place whole seat who hand (unnamed who refl) taken, hand_stays place whole whole' seat (moved seat who place) hand still (λ u sits. moved_still seat who u place sits) taken)

in_hand_or_new : (new : Option Holder) (hand : List Holder) (who : Holder) → list_any (same_holder who) (with_named new hand) ≡ true → (list_any (same_holder who) hand ≡ true) ⊎ (new ≡ Some who)
in_hand_or_new None hand who found = inl found
in_hand_or_new (Some u) hand who found =
    elim (or_cases (same_holder who u) (list_any (same_holder who) hand) found) [ inl here ↦ inr (ap Some (sym (same_one who u here))) | inr later ↦ inl later ]

-- the other seats, if the keeper appends a step
append_others : (place : ℕ) (limits : Option Limits) (steps : List RealmStep) (seat : Holder → ℕ) (hand : List Holder) (x : RealmStep) (id i : ℕ) (v : LedgerView) → id ≡ place → InHand place steps seat hand → MayAppend steps hand x → i ≢ id → Fits place limits steps seat i v → Fits place limits (steps ++ x ∷ []) (seats_after (newly_named steps x) seat place) i v
append_others place limits steps seat hand x id i Opening here taken may away fits = absurd (away (fits.at ∙ sym here))
append_others place limits steps seat hand x id i (Keeping K other arrived held) here taken may away fits = absurd (away (fits.at ∙ sym here))
append_others place limits steps seat hand x id i (Holding share) here taken may away fits =
    let old : newly_named steps x ≡ Some share.holder → ⊥ = λ new. both_ways (is_named share.holder steps) (may.unnamed share.holder new) fits.named in
    let others = false_from_ne_true (is_own share.holder x)
    (λ own. elim (in_hand_or_new (newly_named steps x) hand share.holder (may.owners share.holder own)) [
      | inl mine ↦ away (sym fits.at ∙ (hand_seat place steps seat hand share.holder taken mine ∙ sym here))
      | inr new ↦ old new
    ]) in
    record {
      at = seated_else (newly_named steps x) seat place share.holder old ∙ fits.at;
      limited = fits.limited;
      agrees = agrees_more share.holder share.seen steps x others fits.agrees;
      named = named_still steps x share.holder fits.named;
    }
append_others place limits steps seat hand x id i Spent here taken may away fits = tt

-- who owns the step is named after it
own_named : (place : ℕ) (steps : List RealmStep) (seat : Holder → ℕ) (hand : List Holder) (x : RealmStep) (who : Holder) → InHand place steps seat hand → MayAppend steps hand x → is_own who x ≡ true → is_named who (steps ++ x ∷ []) ≡ true
own_named place steps seat hand x who taken may own =
    elim (in_hand_or_new (newly_named steps x) hand who (may.owners who own)) [
      | inl mine ↦ named_still steps x who (hand_named place steps seat hand who taken mine)
      | inr new ↦ named_newly steps x who new
    ]

-- who isn't named after the step has no step of its own
append_unnamed : (place : ℕ) (steps : List RealmStep) (seat : Holder → ℕ) (hand : List Holder) (x : RealmStep) → InHand place steps seat hand → MayAppend steps hand x → ((who : Holder) → is_named who steps ≡ false → list_any (is_own who) steps ≡ false) → (who : Holder) → is_named who (steps ++ x ∷ []) ≡ false → list_any (is_own who) (steps ++ x ∷ []) ≡ false
append_unnamed place steps seat hand x taken may unnamed who none =
    let named = is_named who (steps ++ x ∷ []) in
    let before = false_from_ne_true (is_named who steps) (λ so. both_ways named none (named_still steps x who so)) in
    let other = false_from_ne_true (is_own who x) (λ own. both_ways named none (own_named place steps seat hand x who taken may own)) in
    list_any-push (is_own who) steps x ∙ or_from (list_any (is_own who) steps) (is_own who x) (unnamed who before) other

-- what the keeper is told of whom a step newly names
pub append_tells : (views : List LedgerView) (id : ℕ) (L : Limits) (steps : List RealmStep) (hand : List Holder) (x : RealmStep) → MayAppend steps hand x → Ledger views → get_elem? views id ≡ some (keeping L steps hand) → IsFresh steps x
append_tells views id L steps hand x may r at =
    let mine : IsKept r.place r.limits r.whole r.seat id L steps None hand = r.fits id _ at in
    let unnamed = subst (λ (w : List RealmStep). (who : Holder) → is_named who w ≡ false → list_any (is_own who) w ≡ false) (sym mine.all) r.unnamed in
    λ who new. unnamed who (may.unnamed who new)

pub append_keeps : (views : List LedgerView) (id : ℕ) (L : Limits) (steps : List RealmStep) (hand : List Holder) (x : RealmStep) → MayAppend steps hand x → Ledger views → get_elem? views id ≡ some (keeping L steps hand) → Ledger (set views id (keeping L (steps ++ x ∷ []) (with_named (newly_named steps x) hand)))
append_keeps views id L steps hand x may r at =
    let mine : IsKept r.place r.limits r.whole r.seat id L steps None hand = r.fits id _ at in
    let taken : InHand r.place steps r.seat hand = subst (λ (w : List RealmStep). InHand r.place w r.seat hand) (sym mine.all) mine.taken in
    let new = newly_named steps x in
    let seat' = seats_after new r.seat r.place in
    refit views id (keeping L (steps ++ x ∷ []) (with_named new hand)) r.place r.limits (steps ++ x ∷ []) seat'
    (record {
      at = mine.at;
      limited = mine.limited;
      all = refl;
      arriving = tt;
      taken = hand_after new r.place steps (steps ++ x ∷ []) r.seat hand (named_still steps x) (named_newly steps x) may.unnamed taken;
    })
    (λ i v away there. append_others r.place r.limits steps r.seat hand x id i v mine.at taken may away (subst (λ (w : List RealmStep). Fits r.place r.limits w r.seat i v) (sym mine.all) (r.fits i v there)))
    (append_unnamed r.place steps r.seat hand x taken may (subst (λ (w : List RealmStep). (who : Holder) → is_named who w ≡ false → list_any (is_own who) w ≡ false) (sym mine.all) r.unnamed))

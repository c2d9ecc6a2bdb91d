-- Holders, if they sit, and the keeper's hand.
use Rattle.std.proofs.Common.{[], ℕ, ◌++◌, ◌+◌, ◌==◌, ◌||◌, ◌∙◌, ◌∷◌, ◌≡◌, ◌⊎◌, Bool, List, Some, ap, arith, cond, false, inl, inr, length, nat_le, refl, subst, suc, sym, true, zero}
use Rattle.share_ledger.specs.{Absent, Agrees, Fork, Happened, Holder, InHand, RealmStep, Start, TicketOf, TokenOf, forks, is_event, is_fork, is_named, is_own, list_any, newly_named, same_holder, started_in, starts}
use Rattle.share_ledger.proofs.Words.{and_from, and_parts, append-nil, append_assoc, both_ways, cond-false, cond-true, eq-eqb, eqb-true, false_from_ne_true, get_elem?, le-leb, leb-true, list_any-push, or_cases, or_from, or_left}
use Rattle.share_ledger.proofs.Words.{or_right, some, some-injective, some-ne-none, sum_by-append}

pub same_itself : (who : Holder) → same_holder who who ≡ true
same_itself (TokenOf a) = eq-eqb a a refl
same_itself (TicketOf k) = eq-eqb k k refl

pub same_one : (who u : Holder) → same_holder who u ≡ true → who ≡ u
same_one (TokenOf a) (TokenOf b) same = ap TokenOf (eqb-true a b same)
same_one (TicketOf k) (TicketOf m) same = ap TicketOf (eqb-true k m same)
same_one (TokenOf a) (TicketOf m) same = absurd cc
same_one (TicketOf k) (TokenOf b) same = absurd cc

pub not_same : (who u : Holder) → (who ≡ u → ⊥) → same_holder who u ≡ false
not_same who u other = false_from_ne_true (same_holder who u) (λ same. other (same_one who u same))

-- the seats, if this holder has moved to seat n
abbrev pub moved : (Holder → ℕ) → Holder → ℕ → Holder → ℕ
moved seat who n u = cond (same_holder u who) n (seat u)

pub moved_here : (seat : Holder → ℕ) (who : Holder) (n : ℕ) → moved seat who n who ≡ n
moved_here seat who n = cond-true (same_holder who who) n (seat who) (same_itself who)

pub moved_other : (seat : Holder → ℕ) (who u : Holder) (n : ℕ) → (u ≡ who → ⊥) → moved seat who n u ≡ seat u
moved_other seat who u n other = cond-false (same_holder u who) n (seat u) (not_same u who other)

moved_by : (b : Bool) (n m : ℕ) → m ≡ n → cond b n m ≡ n
moved_by true n m is = refl
moved_by false n m is = is

-- who sat at n sits there still
pub moved_still : (seat : Holder → ℕ) (who u : Holder) (n : ℕ) → seat u ≡ n → moved seat who n u ≡ n
moved_still seat who u n is = moved_by (same_holder u who) n (seat u) is

-- whose share is in hand sits at the keeper's place
pub hand_seat : (place : ℕ) (whole : List RealmStep) (seat : Holder → ℕ) (hand : List Holder) (who : Holder) → InHand place whole seat hand → list_any (same_holder who) hand ≡ true → seat who ≡ place
hand_seat place whole seat [] who taken found = absurd cc
hand_seat place whole seat (u ∷ hand) who taken found =
    elim (or_cases (same_holder who u) (list_any (same_holder who) hand) found) [
      | inl here ↦ ap seat (same_one who u here) ∙ taken.0
      | inr later ↦ hand_seat place whole seat hand who taken.3 later
    ]

-- whose share is in hand is named
pub hand_named : (place : ℕ) (whole : List RealmStep) (seat : Holder → ℕ) (hand : List Holder) (who : Holder) → InHand place whole seat hand → list_any (same_holder who) hand ≡ true → is_named who whole ≡ true
hand_named place whole seat [] who taken found = absurd cc
hand_named place whole seat (u ∷ hand) who taken found =
    elim (or_cases (same_holder who u) (list_any (same_holder who) hand) found) [
      | inl here ↦ subst (λ (w : Holder). is_named w whole ≡ true) (sym (same_one who u here)) taken.1
      | inr later ↦ hand_named place whole seat hand who taken.3 later
    ]

-- the hand stays, if its holders are named still and sit at the place still
pub hand_stays : (place : ℕ) (whole whole' : List RealmStep) (seat seat' : Holder → ℕ) (hand : List Holder) → ((u : Holder) → is_named u whole ≡ true → is_named u whole' ≡ true) → ((u : Holder) → seat u ≡ place → seat' u ≡ place) → InHand place whole seat hand → InHand place whole' seat' hand
hand_stays place whole whole' seat seat' [] named sits taken = tt
hand_stays place whole whole' seat seat' (u ∷ hand) named sits taken = (sits u taken.0, named u taken.1, taken.2, hand_stays place whole whole' seat seat' hand named sits taken.3)

-- the hand stays, if a holder that it lacks moves away
pub hand_without : (place : ℕ) (whole : List RealmStep) (seat : Holder → ℕ) (who : Holder) (n : ℕ) (hand : List Holder) → Absent who hand → InHand place whole seat hand → InHand place whole (moved seat who n) hand
hand_without place whole seat who n [] absent taken = tt
hand_without place whole seat who n (u ∷ hand) absent taken = (moved_other seat who u n absent.0 ∙ taken.0, taken.1, taken.2, hand_without place whole seat who n hand absent.1 taken.3)

-- who sits elsewhere is not in hand
pub absent_elsewhere : (place : ℕ) (whole : List RealmStep) (seat : Holder → ℕ) (who : Holder) (hand : List Holder) → (seat who ≡ place → ⊥) → InHand place whole seat hand → Absent who hand
absent_elsewhere place whole seat who [] away taken = tt
absent_elsewhere place whole seat who (u ∷ hand) away taken = ((λ same. away (ap seat (sym same) ∙ taken.0)), absent_elsewhere place whole seat who hand away taken.3)

-- who isn't named is not in hand
pub absent_unnamed : (place : ℕ) (whole : List RealmStep) (seat : Holder → ℕ) (who : Holder) (hand : List Holder) → is_named who whole ≡ false → InHand place whole seat hand → Absent who hand
absent_unnamed place whole seat who [] unnamed taken = tt
absent_unnamed place whole seat who (u ∷ hand) unnamed taken =
    ((λ same. both_ways (is_named who whole) unnamed (subst (λ (w : Holder). is_named w whole ≡ true) same taken.1)), absent_unnamed place whole seat who hand unnamed taken.3)

forks-push : (steps : List RealmStep) (x : RealmStep) → forks (steps ++ x ∷ []) ≡ forks steps + cond (is_event is_fork x) 1 0
forks-push steps x = sum_by-append (λ y. cond (is_event is_fork y) 1 0) steps (x ∷ []) ∙ omega arith

pub started-push : (k : ℕ) (steps : List RealmStep) (x : RealmStep) → started_in k (steps ++ x ∷ []) ≡ (started_in k steps || is_event (starts k) x)
unfolding started_in
started-push k steps x = list_any-push (is_event (starts k)) steps x

-- who is named stays so
pub named_still : (steps : List RealmStep) (x : RealmStep) (who : Holder) → is_named who steps ≡ true → is_named who (steps ++ x ∷ []) ≡ true
named_still steps x (TokenOf a) named =
    elim (or_cases (a == 0) (started_in a steps) named) [
      | inl main ↦ or_left (a == 0) (started_in a (steps ++ x ∷ [])) main
      | inr started ↦ or_right (a == 0) (started_in a (steps ++ x ∷ [])) (started-push a steps x ∙ or_left (started_in a steps) (is_event (starts a) x) started)
    ]
named_still steps x (TicketOf k) named =
    let parts = and_parts (nat_le 1 k) (nat_le k (forks steps)) named in
    and_from (nat_le 1 k) (nat_le k (forks (steps ++ x ∷ []))) parts.0 (le-leb k (forks (steps ++ x ∷ [])) (omega (arith, leb-true k (forks steps) parts.1, forks-push steps x)))

-- the step names whom it newly names
pub named_newly : (steps : List RealmStep) (x : RealmStep) (who : Holder) → newly_named steps x ≡ Some who → is_named who (steps ++ x ∷ []) ≡ true
named_newly steps (Happened (Fork a s label)) who new =
    let is : TicketOf (forks steps + 1) ≡ who = cc in
    let grown = forks-push steps (Happened (Fork a s label)) in
    subst (λ (w : Holder). is_named w (steps ++ Happened (Fork a s label) ∷ []) ≡ true) is (and_from _ _ (le-leb 1 (forks steps + 1) (omega arith)) (le-leb (forks steps + 1) (forks (steps ++ Happened (Fork a s label) ∷ [])) (omega arith)))
named_newly steps (Happened (Start k)) who new =
    let is : TokenOf k ≡ who = cc in
    subst (λ (w : Holder). is_named w (steps ++ Happened (Start k) ∷ []) ≡ true) is (or_right (k == 0) _ (started-push k steps (Happened (Start k)) ∙ or_right (started_in k steps) (k == k) (eq-eqb k k refl)))
named_newly steps _ who new = absurd cc

-- a ticket is named by the fork that gives its number, and by no fork before it
pub next_unnamed : (steps : List RealmStep) → is_named (TicketOf (forks steps + 1)) steps ≡ false
next_unnamed steps =
    false_from_ne_true (is_named (TicketOf (forks steps + 1)) steps)
    (λ named.
    let parts = and_parts (nat_le 1 (forks steps + 1)) (nat_le (forks steps + 1) (forks steps)) named in
    absurd (omega (arith, leb-true (forks steps + 1) (forks steps) parts.1)))

pub agrees_whole : (who : Holder) (steps : List RealmStep) → Agrees who steps steps
agrees_whole who steps = record { later = []; is = sym (append-nil steps); others = refl }

-- a share agrees still after a step that isn't its holder's own
pub agrees_more : (who : Holder) (seen whole : List RealmStep) (x : RealmStep) → is_own who x ≡ false → Agrees who seen whole → Agrees who seen (whole ++ x ∷ [])
agrees_more who seen whole x other agrees = record {
  later = agrees.later ++ x ∷ [];
  is = ap (λ (w : List RealmStep). w ++ x ∷ []) agrees.is ∙ append_assoc seen agrees.later (x ∷ []);
  others = list_any-push (is_own who) agrees.later x ∙ or_from (list_any (is_own who) agrees.later) (is_own who x) agrees.others other;
}

-- where an element of a list with one more at its end stands
pub at_push : {A : Type 0} (l : List A) (a b : A) (j : ℕ) → get_elem? (l ++ a ∷ []) j ≡ some b → (get_elem? l j ≡ some b) ⊎ ((j ≡ length l) × (a ≡ b))
at_push [] a b zero e = inr (refl, some-injective a b e)
at_push [] a b (suc j) e = absurd (some-ne-none b (sym e))
at_push (x ∷ xs) a b zero e = inl e
at_push (x ∷ xs) a b (suc j) e = elim (at_push xs a b j e) [ inl h ↦ inl h | inr h ↦ inr (ap suc h.0, h.1) ]

-- an element stands below the length
pub at_below : {A : Type 0} (l : List A) (a : A) (j : ℕ) → get_elem? l j ≡ some a → (j ≡ length l → ⊥)
at_below [] a j e = λ is. absurd (some-ne-none a (sym e))
at_below (x ∷ xs) a zero e = λ is. absurd (omega arith)
at_below (x ∷ xs) a (suc j) e = λ is. at_below xs a j e (omega arith)

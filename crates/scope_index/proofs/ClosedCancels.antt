-- A scope that closes has an own cancel, since the beginning of a close that covers it is one. So a scope that isn't
-- cancelled isn't closed.
use Rattle.std.proofs.Common.{[], ℕ, ◌&&◌, ◌||◌, ◌∙◌, ◌≡◌, ◌⊎◌, Bool, None, Option, Some, ap, cond, false, inl, inr, is_some, length, nat_le, nat_lt, not, option_map, refl, subst, sym, true}
use Rattle.scope_index.specs.{Accepts, BeginClose, CauseKind, Close, Event, FirstCancel, History, Legal, Limits, Opening, Origin, begins_closing, cancel_at, chain_by, closed, closing, covers, direct_kind, earliest_on}
use Rattle.scope_index.specs.{first_cancel, first_cancel_by, followed, have_one_opener, is_cancelled, nearer, onward, opening, option_or, outer, outwards, own_cancel, row_check, some_below}
use Rattle.scope_index.proofs.Words.{IsOpened, along, both_ways, checks_at, closed_is_closing, closing_grows, eqb-true, false_from_ne_true, opened_some, opening_stays, scope_passed}
use Rattle.scope_index.proofs.OwnCancels.{own_cancel_next, some_either}

-- what was opened, and has an own cancel
HasOwn : History → ℕ → Type 0
HasOwn h s = IsOpened h s × (is_some (own_cancel h s) ≡ true)

either_true : (b c : Bool) → (b || c) ≡ true → (b ≡ true) ⊎ (c ≡ true)
either_true true c is = inl refl
either_true false c is = inr is

last_true : (a b c : Bool) → (a && b && c) ≡ true → c ≡ true
last_true true true c is = is
last_true true false c is = absurd cc
last_true false b c is = absurd cc

second_opened : (o p : Option Opening) → have_one_opener o p ≡ true → is_some p ≡ true
second_opened (Some a) (Some b) is = refl
second_opened (Some a) None is = absurd cc
second_opened None p is = absurd cc

covered_opened : (L : Limits) (h : History) (a t s : ℕ) → Accepts L h (BeginClose a t) → covers h t s ≡ true → IsOpened h s
unfolding covers row_check
covered_opened L h a t s ok it =
    elim (either_true _ _ it) [
      | inl same ↦ subst (IsOpened h) (eqb-true t s same) (scope_passed h t (checks_at _ 1 _ ok.passed refl))
      | inr later ↦ opened_some h s (opening h s) refl (second_opened (opening h t) (opening h s) (last_true (nat_lt t s) (not (closed h s)) (have_one_opener (opening h t) (opening h s)) later))
    ]

some_first : {A : Type 0} (o p : Option A) → is_some o ≡ true → is_some (option_or o p) ≡ true
some_first None p some = absurd cc
some_first (Some x) p some = refl

still_has : (h : History) (e : Event) (s : ℕ) → HasOwn h s → HasOwn (followed h e) s
unfolding HasOwn
still_has h e s was =
    let is = opening_stays h e s was.0.opened was.0.is in
    (record { opened = was.0.opened; is = is }, ap is_some (own_cancel_next h e s was.0.opened is) ∙ some_first (own_cancel h s) _ was.1)

kind_begun : (b : Bool) (rest : Option CauseKind) (place s : ℕ) → b ≡ true → is_some (option_map (λ k. cancel_at place s k) (option_or (cond b (Some Close) None) rest)) ≡ true
kind_begun true rest place s is = refl
kind_begun false rest place s is = absurd cc

begun_has : (L : Limits) (h : History) (e : Event) (s : ℕ) → Accepts L h e → begins_closing h s e ≡ true → HasOwn (followed h e) s
unfolding HasOwn
begun_has L h (BeginClose a t) s ok now =
    let it = covered_opened L h a t s ok now in
    let is = opening_stays h (BeginClose a t) s it.opened it.is in (
      record { opened = it.opened; is = is },
      ap is_some (own_cancel_next h (BeginClose a t) s it.opened is)
          ∙ some_either (own_cancel h s) _ (kind_begun (covers h t s) _ (length h.events) s now),
    )
begun_has L h _ s ok now = absurd cc

ClosingHasOwn : History → Type 0
ClosingHasOwn h = (s : ℕ) → closing h s ≡ true → HasOwn h s

closing_start : (b : Origin) → ClosingHasOwn (record { base = b; events = [] })
unfolding ClosingHasOwn closing some_below
closing_start b s it = absurd cc

closing_step : (L : Limits) (h : History) (e : Event) → Accepts L h e → ClosingHasOwn h → ClosingHasOwn (followed h e)
unfolding ClosingHasOwn
closing_step L h e ok so s it =
    elim (either_true (closing h s) (begins_closing h s e) (sym (closing_grows h e s) ∙ it)) [ inl old ↦ still_has h e s (so s old) | inr now ↦ begun_has L h e s ok now ]

-- in a legal history what closes has an own cancel
closing_has_own : (L : Limits) (h : History) (s : ℕ) → Legal L h → closing h s ≡ true → is_some (own_cancel h s) ≡ true
unfolding ClosingHasOwn HasOwn
closing_has_own L h s legal it = (along L ClosingHasOwn closing_start (λ g e lawful ok was. closing_step L g e ok was) h legal s it).1

pub near_some : (o far : Option FirstCancel) → is_some o ≡ true → is_some (nearer o far) ≡ true
near_some None far some = absurd cc
near_some (Some c) None some = refl
near_some (Some c) (Some d) some = by (nat_le c.place d.place)
  where
    by : (b : Bool) → is_some (cond b (Some c) (Some d)) ≡ true
    by true = refl
    by false = refl

own_cancels : (h : History) (s : ℕ) → is_some (own_cancel h s) ≡ true → is_cancelled h s ≡ true
unfolding is_cancelled first_cancel first_cancel_by chain_by
own_cancels h s some = near_some (own_cancel h s) (earliest_on (own_cancel h) (onward (outer h s) (outwards (outer h) s))) some

-- in a legal history what isn't cancelled isn't closed
pub live_unclosed : (L : Limits) (h : History) (s : ℕ) → Legal L h → is_cancelled h s ≡ false → closed h s ≡ false
live_unclosed L h s legal live =
    false_from_ne_true (closed h s) (λ so. both_ways (is_cancelled h s) live (own_cancels h s (closing_has_own L h s legal (closed_is_closing L h s legal so))))

-- In a legal history, what an owner opened later than a scope whose close has begun, and has not closed,
-- is closing too.
use Rattle.std.proofs.Common.{[], ℕ, ◌+◌, ◌<◌, ◌==◌, ◌||◌, ◌∙◌, ◌≡◌, ◌≤◌, ◌⊎◌, Bool, None, Option, Some, ap, arith, cond, false, inl, inr, length, not, refl, subst, sym, true}
use Rattle.realm_core.specs.{Accepts, BeginClose, Event, History, Legal, Limits, Open, Opening, Origin, begins_closing, closed, closing, covers, earliest, followed, have_one_opener, in_closing, innermost, is_open, opening}
use Rattle.realm_core.specs.{opening_of, row_check, scopes}
use Rattle.realm_core.proofs.Words.{along, and_from, and_parts, both_ways, cases_lt, checks_at, closing_grows, closing_stays, count_push, eq-eqb, eqb-true, innermost_unclosed, lt-ltb, ltb-true, not_refused, opened_after}
use Rattle.realm_core.proofs.Words.{opening_split, unclosed_earlier, unclosed_innermost}

abbrev LaterClose : History → Type 0
LaterClose h = (s t : ℕ) (o x : Opening) → opening h s ≡ Some o → opening h t ≡ Some x → o.actor ≡ x.actor → s < t → closing h s ≡ true → closed h s ≡ false → closed h t ≡ false → closing h t ≡ true

later_start : (b : Origin) → LaterClose (record { base = b; events = [] })
unfolding opening earliest
later_start b s t o x is it same less begun unclosed still = absurd cc

one_or_none : (b : Bool) → cond b 1 0 ≤ 1
one_or_none true = omega arith
one_or_none false = omega arith

either : (b c : Bool) → (b || c) ≡ true → (b ≡ true) ⊎ (c ≡ true)
either true c so = inl refl
either false c so = inr so

or_right_true : (b c : Bool) → c ≡ true → (b || c) ≡ true
or_right_true true c so = refl
or_right_true false c so = so

openers : (p q : Option Opening) (o : Opening) → q ≡ Some o → have_one_opener p q ≡ true → (y : Opening) × (p ≡ Some y) × (y.actor ≡ o.actor)
openers None q o is so = absurd cc
openers (Some y) q o is so = (y, refl, eqb-true y.actor o.actor (rw is at so))

covered : (h : History) (u t : ℕ) (y x : Opening) → opening h u ≡ Some y → opening h t ≡ Some x → y.actor ≡ x.actor → u < t → closed h t ≡ false → covers h u t ≡ true
unfolding covers
covered h u t y x at it same less still =
    or_right_true (u == t) _ (and_from _ _ (and_from _ _ (lt-ltb u t less) (ap not still)) (rw (at, it) (eq-eqb y.actor x.actor same)))

-- what covers a scope covers each later one of the same owner that is not closed
covers_more : (h : History) (u s t : ℕ) (o x : Opening) → opening h s ≡ Some o → opening h t ≡ Some x → o.actor ≡ x.actor → s < t → closed h t ≡ false → covers h u s ≡ true → covers h u t ≡ true
unfolding covers
covers_more h u s t o x is it same less still so =
    elim (either (u == s) _ so) [
      | inl one ↦ let P : ℕ → Type 0 = λ n. covers h n t ≡ true in subst P (sym (eqb-true u s one)) (covered h s t o x is it same less still)
      | inr more ↦
          let parts = and_parts _ _ more in
          let under = ltb-true u s (and_parts _ _ parts.0).0 in
          let found = openers (opening h u) (opening h s) o is parts.1 in
          covered h u t found.0 x found.1 it (found.2 ∙ same) (omega (arith, under, less)) still
    ]

begins_more : (h : History) (e : Event) (s t : ℕ) (o x : Opening) → opening h s ≡ Some o → opening h t ≡ Some x → o.actor ≡ x.actor → s < t → closed h t ≡ false → begins_closing h s e ≡ true → begins_closing h t e ≡ true
begins_more h (BeginClose actor scope) s t o x is it same less still so = covers_more h scope s t o x is it same less still so
begins_more h _ s t o x is it same less still so = absurd cc

-- an opener's innermost scope is not closing
opens_live : (L : Limits) (h : History) (a s : ℕ) (policy options : _) → Accepts L h (Open a policy options) → innermost h a ≡ Some s → closing h s ≡ false
unfolding row_check in_closing
opens_live L h a s policy options ok is = rw is at (not_refused _ _ (checks_at _ 1 _ ok.passed refl))

opened_live : (L : Limits) (h : History) (i : ℕ) (e : Event) (x : Opening) (s : ℕ) → opening_of i e ≡ Some x → Accepts L h e → innermost h x.actor ≡ Some s → closing h s ≡ false
opened_live L h i (Open actor policy options) x s new ok is =
    let same : actor ≡ x.actor = cc in
    opens_live L h actor s policy options ok (rw same is)
opened_live L h i _ x s new ok is = absurd cc

opens_begin_none : (h : History) (i : ℕ) (e : Event) (x : Opening) (s : ℕ) → opening_of i e ≡ Some x → begins_closing h s e ≡ false
opens_begin_none h i (Open actor policy options) x s new = refl
opens_begin_none h i _ x s new = absurd cc

-- so nothing is opened inside a scope of the same owner that is closing and not closed
none_opened : (L : Limits) (h : History) (e : Event) (s : ℕ) (o x : Opening) → LaterClose h → Accepts L h e → opening_of (length h.events) e ≡ Some x → opening h s ≡ Some o → o.actor ≡ x.actor → closing h s ≡ true → closed h s ≡ false → ⊥
none_opened L h e s o x so ok new is same begun unclosed =
    let it = unclosed_innermost h x.actor s (record { opened = o; is = is; by = same; unclosed = unclosed }) in
    let own = innermost_unclosed h x.actor it.scope it.is in
    let live = opened_live L h (length h.events) e x it.scope new ok it.is in
    elim (cases_lt s it.scope) [
      | inl more ↦ both_ways (closing h it.scope) live (so s it.scope o own.opened is own.is (same ∙ sym own.by) more begun unclosed own.unclosed)
      | inr less ↦ let one : s ≡ it.scope = omega (arith, it.least, less) in both_ways (closing h s) (rw one live) begun
    ]

-- a new scope has the greatest number
too_late : (h : History) (e : Event) (s t : ℕ) (x : Opening) → s ≡ scopes h + 1 → opening (followed h e) t ≡ Some x → s < t → ⊥
too_late h e s t x is it less =
    let number = opened_after (followed h e) t x it in
    absurd (omega (arith, number.1, number.2, count_push is_open h.events e, one_or_none (is_open e)))

later_step : (L : Limits) (h : History) (e : Event) → Legal L h → Accepts L h e → LaterClose h → LaterClose (followed h e)
later_step L h e legal ok so s t o x is it same less begun unclosed still =
    let s_open = unclosed_earlier h e s unclosed in
    let t_open = unclosed_earlier h e t still in
    elim (opening_split h e s o is) [
      | inr new ↦ absurd (too_late h e s t x new.0 it less)
      | inl old ↦
          elim (opening_split h e t x it) [
            | inl there ↦
                elim (either (closing h s) (begins_closing h s e) (sym (closing_grows h e s) ∙ begun)) [
                  | inl was ↦ closing_stays h e t (so s t o x old there same less was s_open t_open)
                  | inr now ↦ closing_grows h e t ∙ or_right_true (closing h t) _ (begins_more h e s t o x old there same less t_open now)
                ]
            | inr new ↦
                elim (either (closing h s) (begins_closing h s e) (sym (closing_grows h e s) ∙ begun)) [
                  | inl was ↦ absurd (none_opened L h e s o x so ok new.1 old same was s_open)
                  | inr now ↦ absurd (both_ways (begins_closing h s e) (opens_begin_none h (length h.events) e x s new.1) now)
                ]
          ]
    ]

-- in a legal history: if a scope is closing and not closed, each scope that its owner opened later and
-- has not closed is closing
pub later_closing : (L : Limits) (h : History) (s t : ℕ) (o x : Opening) → Legal L h → opening h s ≡ Some o → opening h t ≡ Some x → o.actor ≡ x.actor → s < t → closing h s ≡ true → closed h s ≡ false → closed h t ≡ false → closing h t ≡ true
later_closing L h s t o x legal is it same less begun unclosed still = along L LaterClose later_start (λ g e lawful ok was. later_step L g e lawful ok was) h legal s t o x is it same less begun unclosed still

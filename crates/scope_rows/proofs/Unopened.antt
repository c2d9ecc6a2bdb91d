-- Of a scope that was never opened nothing is said.
use Rattle.std.proofs.Common.{[], ℕ, ◌&&◌, ◌+◌, ◌==◌, ◌||◌, ◌∙◌, ◌≡◌, ◌≢◌, Bool, None, Option, Some, arith, false, inl, inr, nat_lt, not, refl, subst, sym, true}
use Rattle.scope_rows.specs.{Accepts, BeginClose, Event, Forking, History, Legal, Limits, Opening, Origin, Words.joined, begins_closing, begins_for, closed, closing, covers, covers_another, followed, forking, have_one_opener}
use Rattle.scope_rows.specs.{joining, opening, scopes, some_below, violated}
use Rattle.scope_rows.proofs.Words.{IsOpened, along, and_parts, begin_close_passed, both_ways, closed_opened, closing_grows, eqb-true, false_from_ne_true, forked_opened, joined_opened, opened_after, opening_stays, or_cases}
use Rattle.scope_rows.proofs.Words.{violated_grows}
use Rattle.scope_rows.proofs.Joinings.{unjoined}

-- the next number was given to no scope
pub next_unopened : (h : History) → IsOpened h (scopes h + 1) → ⊥
next_unopened h it = let number = opened_after h (scopes h + 1) it.opened it.is in absurd (omega (arith, number.1, number.2))

-- what was opened is opened after one event more
stays_opened : (h : History) (e : Event) (s : ℕ) → IsOpened h s → IsOpened (followed h e) s
stays_opened h e s it = record { opened = it.opened; is = opening_stays h e s it.opened it.is }

-- what has an opener was opened
one_opener : (h : History) (s : ℕ) (o p : Option Opening) → opening h s ≡ p → have_one_opener o p ≡ true → IsOpened h s
one_opener h s None p is found = absurd cc
one_opener h s (Some x) None is found = absurd cc
one_opener h s (Some x) (Some y) is found = record { opened = y; is = is }

-- what the beginning of the close of an opened scope covers was opened
covered_opened : (h : History) (t s : ℕ) → IsOpened h t → covers h t s ≡ true → IsOpened h s
unfolding covers
covered_opened h t s it found =
    elim (or_cases (t == s) (nat_lt t s && not (closed h s) && have_one_opener (opening h t) (opening h s)) found) [
      | inl same ↦ subst (IsOpened h) (eqb-true t s same) it
      | inr later ↦ one_opener h s (opening h t) (opening h s) refl (and_parts (nat_lt t s && not (closed h s)) (have_one_opener (opening h t) (opening h s)) later).1
    ]

-- what the event begins to close was opened
begun_opened : (L : Limits) (h : History) (e : Event) (s : ℕ) → Accepts L h e → begins_closing h s e ≡ true → IsOpened h s
begun_opened L h (BeginClose actor scope) s ok it =
    let owner = (begin_close_passed L h actor scope ok).owner in
    covered_opened h scope s (record { opened = owner.opened; is = owner.is }) it
begun_opened L h _ s ok it = absurd cc

-- and so was the scope whose own close it begins
begun_for_opened : (L : Limits) (h : History) (e : Event) (s : ℕ) → Accepts L h e → begins_for h s e ≡ true → IsOpened h s
begun_for_opened L h (BeginClose actor scope) s ok it =
    let owner = (begin_close_passed L h actor scope ok).owner in
    subst (IsOpened h) (eqb-true scope s (and_parts (scope == s) (covers_another h s) it).0) (record { opened = owner.opened; is = owner.is })
begun_for_opened L h _ s ok it = absurd cc

-- what is said of no scope as a realm begins, and then only of what was opened, is said of opened scopes alone
module _ (said : History → ℕ → Bool) (now : History → ℕ → Event → Bool) (start : (b : Origin) (s : ℕ) → said (record { base = b; events = [] }) s ≡ false) (grows : (h : History) (e : Event) (s : ℕ) → said (followed h e) s ≡ (said h s || now h s e))
    (opened_now : (L : Limits) (h : History) (e : Event) (s : ℕ) → Accepts L h e → now h s e ≡ true → IsOpened h s) where
  abbrev SaidIsOpened : History → Type 0
  SaidIsOpened h = (s : ℕ) → said h s ≡ true → IsOpened h s

  said_start : (b : Origin) → SaidIsOpened (record { base = b; events = [] })
  said_start b s so = absurd (both_ways (said (record { base = b; events = [] }) s) (start b s) so)

  said_step : (L : Limits) (h : History) (e : Event) → Accepts L h e → SaidIsOpened h → SaidIsOpened (followed h e)
  said_step L h e ok was s it = stays_opened h e s (elim (or_cases (said h s) (now h s e) (sym (grows h e s) ∙ it)) [ inl old ↦ was s old | inr new ↦ opened_now L h e s ok new ])

  said_opened : (L : Limits) (h : History) (s : ℕ) → Legal L h → said h s ≡ true → IsOpened h s
  said_opened L h s legal it = along L SaidIsOpened said_start (λ g e lawful ok was. said_step L g e ok was) h legal s it

closing_start : (b : Origin) (s : ℕ) → closing (record { base = b; events = [] }) s ≡ false
unfolding closing some_below
closing_start b s = refl

-- in a legal history what is closing was opened
pub closing_opened : (L : Limits) (h : History) (s : ℕ) → Legal L h → closing h s ≡ true → IsOpened h s
closing_opened L h s legal it = said_opened closing begins_closing closing_start closing_grows begun_opened L h s legal it

violated_start : (b : Origin) (s : ℕ) → violated (record { base = b; events = [] }) s ≡ false
unfolding violated some_below
violated_start b s = refl

-- and so was a scope whose close was out of order
violated_opened : (L : Limits) (h : History) (s : ℕ) → Legal L h → violated h s ≡ true → IsOpened h s
violated_opened L h s legal it = said_opened violated begins_for violated_start violated_grows begun_for_opened L h s legal it

-- nothing is said of a scope that was never opened
pub record IsUnsaid (h : History) (s : ℕ) : Type 0 where
  pub joined : joining h s ≡ None
  pub closing : closing h s ≡ false
  pub closed : closed h s ≡ false
  pub violated : violated h s ≡ false
  pub tasks : (k : ℕ) (f : Forking) → forking h k ≡ Some f → f.scope ≢ s

-- in a legal history nothing is said of a number that no scope has
pub unopened_unsaid : (L : Limits) (h : History) (s : ℕ) → Legal L h → (IsOpened h s → ⊥) → IsUnsaid h s
unopened_unsaid L h s legal none = record {
  joined = unjoined h s (false_from_ne_true (joined h s) (λ so. none (joined_opened L h s legal so)));
  closing = false_from_ne_true (closing h s) (λ so. none (closing_opened L h s legal so));
  closed = false_from_ne_true (closed h s) (λ so. none (closed_opened L h s legal so));
  violated = false_from_ne_true (violated h s) (λ so. none (violated_opened L h s legal so));
  tasks = λ k f is same. none (subst (IsOpened h) same (forked_opened L h k f legal is));
}

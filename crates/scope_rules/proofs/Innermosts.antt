-- What the innermost scope of an actor says of its other scopes, and how it goes on.
use Rattle.std.proofs.Common.{ℕ, ◌&&◌, ◌+◌, ◌<◌, ◌==◌, ◌∙◌, ◌≡◌, ◌≤◌, Bool, None, Option, Some, ap, arith, cond, false, inl, inr, not, refl, suc, sym, true, zero}
use Rattle.scope_rules.specs.{History.History, Opening, closed, innermost, is_open, latest, opened_count, opening, opening_of, option_and_then, option_or, unclosed_of}
use Rattle.scope_rules.proofs.Words.{cases_eq, cases_lt, eq-eqb, eqb-true}
use Rattle.scope_rules.proofs.Openings.{and_then_some, numbered_within, opens_it}

-- the actor opened scope s, and has not closed it
pub record HasUnclosed (h : History) (a s : ℕ) : Type 0 where
  pub opened : Opening
  pub is : opening h s ≡ Some opened
  pub by : opened.actor ≡ a
  pub unclosed : closed h s ≡ false

-- what is found from above stands somewhere, with nothing above it
record FoundAbove {A : Type 0} (f : ℕ → Option A) (x : A) (n : ℕ) : Type 0 where
  place : ℕ
  within : place < n
  there : f place ≡ Some x
  above : (i : ℕ) → place < i → i < n → f i ≡ None

none_split : {A : Type 0} (o p : Option A) → option_or o p ≡ None → (o ≡ None) × (p ≡ None)
none_split None p none = (refl, none)
none_split (Some x) p none = absurd cc

-- if nothing is found from above, nothing is there
latest_none : {A : Type 0} (f : ℕ → Option A) (n i : ℕ) → latest f n ≡ None → i < n → f i ≡ None
unfolding latest
latest_none f zero i none within = absurd (omega arith)
latest_none f (suc n) i none within =
    let both = none_split (f n) (latest f n) none in
    elim (cases_eq i n) [ inl same ↦ ap f same ∙ both.0 | inr other ↦ latest_none f n i both.1 (omega arith) ]

latest_by : {A : Type 0} (f : ℕ → Option A) (x : A) (n : ℕ) (o : Option A) → f n ≡ o → option_or o (latest f n) ≡ Some x → (latest f n ≡ Some x → FoundAbove f x n) → FoundAbove f x (suc n)
latest_by f x n (Some y) here found sooner = record {
  place = n;
  within = omega arith;
  there = here ∙ found;
  above = λ i more less. absurd (omega arith);
}
latest_by f x n None here found sooner =
    let it = sooner found in
    record {
      place = it.place;
      within = omega (arith, it.within);
      there = it.there;
      above = λ i more less. elim (cases_eq i n) [ inl same ↦ ap f same ∙ here | inr other ↦ it.above i more (omega arith) ];
    }

latest_found : {A : Type 0} (f : ℕ → Option A) (x : A) (n : ℕ) → latest f n ≡ Some x → FoundAbove f x n
unfolding latest
latest_found f x zero found = absurd cc
latest_found f x (suc n) found = latest_by f x n (f n) refl found (latest_found f x n)

-- a scope that was opened has one of the numbers that were given
pub opened_after : (h : History) (s : ℕ) (o : Opening) → opening h s ≡ Some o → (n : ℕ) × (n < opened_count h) × (h.base.scopes + 1 + n ≡ s)
unfolding opening
opened_after h s o is =
    let it = numbered_within is_open opening_of h.base.scopes h.events s opens_it o is in
    (it.0, it.1, omega (arith, it.2))

-- the number of a scope, if the actor opened it and has not closed it
abbrev unclosed_number : History → ℕ → ℕ → Option ℕ
unclosed_number h a s = option_and_then (λ (o : Opening). cond ((o.actor == a) && not (closed h s)) (Some s) None) (opening h s)

no_number : (b c : Bool) (s : ℕ) → cond (b && not c) (Some s) None ≡ None → b ≡ true → c ≡ true
no_number b true s none is = refl
no_number true false s none is = absurd cc
no_number false false s none is = absurd cc

closed_where_none : (h : History) (a s : ℕ) (o : Opening) → unclosed_number h a s ≡ None → opening h s ≡ Some o → o.actor ≡ a → closed h s ≡ true
closed_where_none h a s o none is by = no_number (o.actor == a) (closed h s) s (rw is at none) (eq-eqb o.actor a by)

a_number : (b c : Bool) (s t : ℕ) → cond (b && not c) (Some s) None ≡ Some t → (b ≡ true) × (c ≡ false) × (s ≡ t)
a_number true false s t is = (refl, refl, cc)
a_number _ _ s t is = absurd cc

unclosed_where_some : (h : History) (a s t : ℕ) → unclosed_number h a s ≡ Some t → (s ≡ t) × HasUnclosed h a s
unclosed_where_some h a s t some =
    let entry = and_then_some (λ (o : Opening). cond ((o.actor == a) && not (closed h s)) (Some s) None) (opening h s) t some in
    let test = a_number (entry.0.actor == a) (closed h s) s t entry.2 in
    (test.2, record { opened = entry.0; is = entry.1; by = eqb-true entry.0.actor a test.0; unclosed = test.1 })

-- an actor without an innermost scope has closed what it opened
pub innermost_none : (h : History) (a t : ℕ) (o : Opening) → innermost h a ≡ None → opening h t ≡ Some o → o.actor ≡ a → closed h t ≡ true
unfolding innermost
innermost_none h a t o none is by =
    let it = opened_after h t o is in
    closed_where_none h a t o (sym (ap (unclosed_number h a) it.2) ∙ latest_none (unclosed_of h a) (opened_count h) it.0 none it.1) is by

-- an actor's innermost scope is one that it opened and has not closed
pub innermost_unclosed : (h : History) (a s : ℕ) → innermost h a ≡ Some s → HasUnclosed h a s
unfolding innermost
innermost_unclosed h a s some =
    let it = latest_found (unclosed_of h a) s (opened_count h) some in
    let there = unclosed_where_some h a (h.base.scopes + 1 + it.place) s it.there in
    rw there.0 at there.1

-- what an actor opened after its innermost scope is closed
pub innermost_later : (h : History) (a s t : ℕ) (o : Opening) → innermost h a ≡ Some s → opening h t ≡ Some o → o.actor ≡ a → s < t → closed h t ≡ true
unfolding innermost
innermost_later h a s t o some is by more =
    let found = latest_found (unclosed_of h a) s (opened_count h) some in
    let there = unclosed_where_some h a (h.base.scopes + 1 + found.place) s found.there in
    let it = opened_after h t o is in
    closed_where_none h a t o (sym (ap (unclosed_number h a) it.2) ∙ found.above it.0 (omega (arith, there.0, it.2)) it.1) is by

-- an actor's innermost scope, if it has one
pub record HasInnermost (h : History) (a t : ℕ) : Type 0 where
  pub scope : ℕ
  pub is : innermost h a ≡ Some scope
  pub least : t ≤ scope

unclosed_by : (h : History) (a t : ℕ) (i : Option ℕ) → innermost h a ≡ i → HasUnclosed h a t → HasInnermost h a t
unclosed_by h a t None is it = absurd (cc (innermost_none h a t it.opened is it.is it.by, it.unclosed))
unclosed_by h a t (Some s) is it =
    elim (cases_lt s t) [
      | inl more ↦ absurd (cc (innermost_later h a s t it.opened is it.is it.by more, it.unclosed))
      | inr less ↦ record { scope = s; is = is; least = less }
    ]

-- an actor that has an unclosed scope has an innermost one, at least as late
pub unclosed_innermost : (h : History) (a t : ℕ) → HasUnclosed h a t → HasInnermost h a t
unclosed_innermost h a t it = unclosed_by h a t (innermost h a) refl it

-- the unclosed scope after which the actor opened closed ones alone is its innermost
pub innermost_is : (h : History) (a s : ℕ) → HasUnclosed h a s → ((t : ℕ) (o : Opening) → opening h t ≡ Some o → o.actor ≡ a → s < t → closed h t ≡ true) → innermost h a ≡ Some s
innermost_is h a s it later =
    let found = unclosed_innermost h a s it in
    let own = innermost_unclosed h a found.scope found.is in
    elim (cases_lt s found.scope) [
      | inl more ↦ absurd (cc (later found.scope own.opened own.is own.by more, own.unclosed))
      | inr less ↦ let same : found.scope ≡ s = omega (arith, found.least) in found.is ∙ ap Some same
    ]

none_unclosed_by : (h : History) (a : ℕ) (i : Option ℕ) → innermost h a ≡ i → ((t : ℕ) (o : Opening) → opening h t ≡ Some o → o.actor ≡ a → closed h t ≡ true) → innermost h a ≡ None
none_unclosed_by h a None is all = is
none_unclosed_by h a (Some s) is all =
    let it = innermost_unclosed h a s is in
    absurd (cc (all s it.opened it.is it.by, it.unclosed))

-- an actor that closed all that it opened has no innermost scope
pub innermost_is_none : (h : History) (a : ℕ) → ((t : ℕ) (o : Opening) → opening h t ≡ Some o → o.actor ≡ a → closed h t ≡ true) → innermost h a ≡ None
innermost_is_none h a all = none_unclosed_by h a (innermost h a) refl all

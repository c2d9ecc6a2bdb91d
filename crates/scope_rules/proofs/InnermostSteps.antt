-- The innermost scope of an actor after each kind of accepted event.
use Rattle.std.proofs.Common.{[], ℕ, ◌+◌, ◌==◌, ◌||◌, ◌∙◌, ◌≡◌, ◌≢◌, ◌≤◌, Bool, None, Option, Some, ap, arith, cond, false, inl, inr, length, refl, sym, true}
use Rattle.scope_rules.specs.{Accepts, EndClose, Event, History.History, History.scopes, Legal.Legal, Limits, Opening, Origin.Origin, closed, declared.types.events.Event.TheVariants.Open, ends, followed, innermost, is_open}
use Rattle.scope_rules.specs.{opening, opening_of, option_or}
use Rattle.scope_rules.proofs.Words.{cond-true, eq-eqb, false_from_ne_true, ne_eqb, or_from}
use Rattle.scope_rules.proofs.{Growing.opening_stays, Innermosts.innermost_is, Innermosts.innermost_is_none, Innermosts.innermost_later, Innermosts.innermost_none, Innermosts.innermost_unclosed, Innermosts.opened_after}
use Rattle.scope_rules.proofs.{Nesting.IsOpened, OneEventMore.along, OneEventMore.closed_grows, OneEventMore.closed_split, OneEventMore.closed_stays, OneEventMore.no_opening, OneEventMore.opening_grows, OneEventMore.opening_split}
use Rattle.scope_rules.proofs.{PassedRows.end_close_passed, PassedRows.ender_passed}

-- each closed scope was opened
abbrev ClosedIsOpened : History → Type 0
ClosedIsOpened h = (s : ℕ) → closed h s ≡ true → IsOpened h s

opened_start : (b : Origin) → ClosedIsOpened (record { base = b; events = [] })
unfolding closed
opened_start b s so = absurd cc

opened_step : (L : Limits) (h : History) (e : Event) → Accepts L h e → ClosedIsOpened h → ClosedIsOpened (followed h e)
opened_step L h e ok so s it =
    let was : IsOpened h s = elim (closed_split h e s it) [
      | inl old ↦ so s old
      | inr now ↦ let owner = (ender_passed L h e s now ok).2.owner in record { opened = owner.opened; is = owner.is }
    ] in
    record { opened = was.opened; is = opening_stays h e s was.opened was.is }

-- in a legal history what is closed was opened
pub closed_opened : (L : Limits) (h : History) (s : ℕ) → Legal L h → closed h s ≡ true → IsOpened h s
closed_opened L h s legal so = along L ClosedIsOpened opened_start (λ g e lawful ok was. opened_step L g e ok was) h legal s so

-- the number of the next scope was not given yet
next_unopened : (h : History) → IsOpened h (scopes h + 1) → ⊥
next_unopened h it = let number = opened_after h (scopes h + 1) it.opened it.is in absurd (omega (arith, number.1, number.2))

next_opening_by : (h : History) (o : Option Opening) → opening h (scopes h + 1) ≡ o → opening h (scopes h + 1) ≡ None
next_opening_by h None is = is
next_opening_by h (Some o) is = absurd (next_unopened h (record { opened = o; is = is }))

-- the opening of the scope that an open gives a number
pub next_opening : (h : History) (a : ℕ) (policy options : _) → opening (followed h (Open a policy options)) (scopes h + 1) ≡ Some (record { place = length h.events; actor = a; policy = policy; options = options })
next_opening h a policy options =
    let e = Open a policy options in
    opening_grows h e (scopes h + 1)
    ∙ (ap (λ (o : Option Opening). option_or o (cond (scopes h + 1 == scopes h + 1) (opening_of (length h.events) e) None)) (next_opening_by h (opening h (scopes h + 1)) refl)
    ∙ cond-true (scopes h + 1 == scopes h + 1) (opening_of (length h.events) e) None (eq-eqb (scopes h + 1) (scopes h + 1) refl))

still_none : (a b : Bool) → a ≡ (b || false) → b ≡ false → a ≡ false
still_none a b is none = is ∙ or_from b false none refl

-- what is opened after an open has at most its number
number_within : (h : History) (a t : ℕ) (policy options : _) (o : Opening) → opening (followed h (Open a policy options)) t ≡ Some o → t ≤ scopes h + 1
number_within h a t policy options o is =
    elim (opening_split h (Open a policy options) t o is) [
      | inl old ↦ let it = opened_after h t o old in omega (arith, it.1, it.2)
      | inr new ↦ omega (arith, new.0)
    ]

-- after an open the innermost scope of its actor is the new one
pub innermost_opened : (L : Limits) (h : History) (a : ℕ) (policy options : _) → Legal L h → innermost (followed h (Open a policy options)) a ≡ Some (scopes h + 1)
innermost_opened L h a policy options legal =
    let e = Open a policy options in
    let s = scopes h + 1 in
    let unclosed = false_from_ne_true (closed h s) (λ so. next_unopened h (closed_opened L h s legal so)) in
    innermost_is (followed h e) a s
    (record { opened = record { place = length h.events; actor = a; policy = policy; options = options }; is = next_opening h a policy options; by = refl; unclosed = still_none (closed (followed h e) s) (closed h s) (closed_grows h e s) unclosed })
    (λ t o is by more. absurd (omega (arith, number_within h a t policy options o is, more)))

unmoved_by : (h : History) (e : Event) (a : ℕ) (i : Option ℕ) → innermost h a ≡ i → ((o : Opening) → opening_of (length h.events) e ≡ Some o → o.actor ≡ a → ⊥) → ((s : ℕ) (o : Opening) → opening h s ≡ Some o → o.actor ≡ a → ends s e ≡ false)
    → innermost (followed h e) a ≡ i
unmoved_by h e a None is opens_none ends_none =
    innermost_is_none (followed h e) a
    (λ t o opened by. elim (opening_split h e t o opened) [ inl old ↦ closed_stays h e t (innermost_none h a t o is old by) | inr new ↦ absurd (opens_none o new.1 by) ])
unmoved_by h e a (Some s) is opens_none ends_none =
    let own = innermost_unclosed h a s is in
    innermost_is (followed h e) a s
    (record { opened = own.opened; is = opening_stays h e s own.opened own.is; by = own.by; unclosed = closed_grows h e s ∙ or_from (closed h s) (ends s e) own.unclosed (ends_none s own.opened own.is own.by) })
    (λ t o opened by more. elim (opening_split h e t o opened) [ inl old ↦ closed_stays h e t (innermost_later h a s t o is old by more) | inr new ↦ absurd (opens_none o new.1 by) ])

-- an event that neither opens a scope for the actor nor closes one of its scopes leaves its innermost scope
pub innermost_unmoved : (h : History) (e : Event) (a : ℕ) → ((o : Opening) → opening_of (length h.events) e ≡ Some o → o.actor ≡ a → ⊥) → ((s : ℕ) (o : Opening) → opening h s ≡ Some o → o.actor ≡ a → ends s e ≡ false)
    → innermost (followed h e) a ≡ innermost h a
innermost_unmoved h e a opens_none ends_none = unmoved_by h e a (innermost h a) refl opens_none ends_none

-- an event that neither opens nor closes a scope leaves every innermost scope
pub innermost_same : (h : History) (e : Event) (a : ℕ) → is_open e ≡ false → ((s : ℕ) → ends s e ≡ false) → innermost (followed h e) a ≡ innermost h a
innermost_same h e a other ends_none = innermost_unmoved h e a (λ o is by. absurd (cc (no_opening (length h.events) e other, is))) (λ s o is by. ends_none s)

-- an open leaves the innermost scopes of other actors
pub innermost_open_other : (h : History) (a b : ℕ) (policy options : _) → b ≢ a → innermost (followed h (Open b policy options)) a ≡ innermost h a
innermost_open_other h a b policy options other =
    innermost_unmoved h (Open b policy options) a
    (λ o is by.
    let same : record { place = length h.events; actor = b; policy = policy; options = options } ≡ o = cc in
    other (ap (λ (x : Opening). x.actor) same ∙ by))
    (λ s o is by. refl)

-- the end of a close leaves the innermost scopes of other actors
pub innermost_end_other : (L : Limits) (h : History) (a b s : ℕ) → Accepts L h (EndClose b s) → b ≢ a → innermost (followed h (EndClose b s)) a ≡ innermost h a
innermost_end_other L h a b s ok other =
    let owner = (end_close_passed L h b s ok).owner in
    innermost_unmoved h (EndClose b s) a (λ o is by. absurd cc)
    (λ t o is by. ne_eqb s t (λ same.
    let here : opening h t ≡ Some owner.opened = ap (opening h) (sym same) ∙ owner.is in
    let one : owner.opened ≡ o = cc in
    other (sym owner.by ∙ (ap (λ (x : Opening). x.actor) one ∙ by))))

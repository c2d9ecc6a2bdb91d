-- After the end of a close the innermost scope of its actor is what it was when the scope was opened.
use Rattle.std.proofs.Common.{[], ℕ, ◌<◌, ◌==◌, ◌||◌, ◌∙◌, ◌≡◌, None, Option, Some, ap, arith, false, inl, inr, length, refl, subst, sym, true}
use Rattle.scope_rules.specs.{Accepts, EndClose, Event, History.History, Legal.Legal, Limits, Opening, Origin.Origin, before, closed, earliest, ends, followed, innermost, opening, opening_of}
use Rattle.scope_rules.proofs.Words.{both_ways, cases_order, eq-eqb, false_from_ne_true, ne_eqb, or_from, or_right}
use Rattle.scope_rules.proofs.{Earlier.opening_within, Growing.opening_number, Growing.opening_place, Growing.opening_stays, Innermosts.HasUnclosed, Innermosts.innermost_is, Innermosts.innermost_is_none}
use Rattle.scope_rules.proofs.{Innermosts.innermost_later, Innermosts.innermost_none, Innermosts.innermost_unclosed, Innermosts.opened_after, OneEventMore.along, OneEventMore.closed_grows, OneEventMore.closed_stays}
use Rattle.scope_rules.proofs.{OneEventMore.later, OneEventMore.opening_ends_none, OneEventMore.opening_later, OneEventMore.opening_same, OneEventMore.opening_split, OneEventMore.unclosed_earlier, PassedRows.EndRow}
use Rattle.scope_rules.proofs.{PassedRows.end_close_passed, PassedRows.ender_passed, Pushing.before_last, Pushing.before_push}

-- before the opening of a scope one with a smaller number was opened
abbrev OlderFirst : History → Type 0
OlderFirst h = (t s : ℕ) (x o : Opening) → opening h t ≡ Some x → opening h s ≡ Some o → t < s → opening (before h o.place) t ≡ Some x

older_start : (b : Origin) → OlderFirst (record { base = b; events = [] })
unfolding opening earliest
older_start b t s x o first second less = absurd cc

-- before an opening that the event made stands all that there was
new_place : (h : History) (e : Event) (o : Opening) → opening_of (length h.events) e ≡ Some o → before (followed h e) o.place ≡ h
new_place h e o new = ap (before (followed h e)) (opening_place (length h.events) e o new) ∙ before_last h e

-- before an opening that there was stands what stood there
old_place : (h : History) (e : Event) (s : ℕ) (o : Opening) → opening h s ≡ Some o → before (followed h e) o.place ≡ before h o.place
old_place h e s o old = let within = opening_within h s o old in before_push h e o.place (omega arith)

older_step : (h : History) (e : Event) → OlderFirst h → OlderFirst (followed h e)
older_step h e so t s x o first second less =
    elim (opening_split h e s o second) [
      | inl old ↦
          let number = opened_after h s o old in
          elim (opening_split h e t x first) [
            | inl earlier ↦ ap (λ (g : History). opening g t) (old_place h e s o old) ∙ so t s x o earlier old less
            | inr new ↦ absurd (omega (arith, less, number.1, number.2, new.0))
          ]
      | inr new ↦
          elim (opening_split h e t x first) [
            | inl earlier ↦ ap (λ (g : History). opening g t) (new_place h e o new.1) ∙ earlier
            | inr other ↦ absurd (omega (arith, less, new.0, other.0))
          ]
    ]

-- in a legal history a scope with a smaller number was opened before
pub opened_first : (L : Limits) (h : History) (t s : ℕ) (x o : Opening) → Legal L h → opening h t ≡ Some x → opening h s ≡ Some o → t < s → opening (before h o.place) t ≡ Some x
opened_first L h t s x o legal first second less = along L OlderFirst older_start (λ g e lawful ok so. older_step g e so) h legal t s x o first second less

-- what its owner had not closed when it opened a scope is unclosed while that scope is
abbrev UnclosedAround : History → Type 0
UnclosedAround h = (s t : ℕ) (o : Opening) → opening h s ≡ Some o → closed h s ≡ false → HasUnclosed (before h o.place) o.actor t → closed h t ≡ false

around_start : (b : Origin) → UnclosedAround (record { base = b; events = [] })
unfolding opening earliest
around_start b s t o is unclosed it = absurd cc

-- no event closes what lies around an unclosed scope of the owner
no_end_around : (L : Limits) (h : History) (e : Event) (s t : ℕ) (o : Opening) → Accepts L h e → opening h s ≡ Some o → closed h s ≡ false → HasUnclosed (before h o.place) o.actor t → ends t e ≡ false
no_end_around L h e s t o ok is unclosed it =
    false_from_ne_true (ends t e)
    (λ now.
    let ended = ender_passed L h e t now ok in
    let row = ended.2 in
    let same : Some it.opened ≡ Some row.owner.opened = sym (opening_later h o.place t it.opened it.is) ∙ row.owner.is in
    let one : it.opened ≡ row.owner.opened = cc in
    let owner : o.actor ≡ ended.0 = sym it.by ∙ (ap (λ (x : Opening). x.actor) one ∙ row.owner.by) in
    let number = opened_after (before h o.place) t it.opened it.is in
    both_ways (closed h s) unclosed (innermost_later h ended.0 t s o row.innermost is owner (omega (arith, opening_number h s o is, number.1, number.2))))

around_step : (L : Limits) (h : History) (e : Event) → Accepts L h e → UnclosedAround h → UnclosedAround (followed h e)
around_step L h e ok so s t o is unclosed it =
    let earlier = unclosed_earlier h e s unclosed in
    elim (opening_split h e s o is) [
      | inl old ↦
          let was = subst (λ (g : History). HasUnclosed g o.actor t) (old_place h e s o old) it in
          closed_grows h e t ∙ or_from (closed h t) (ends t e) (so s t o old earlier was) (no_end_around L h e s t o ok old earlier was)
      | inr new ↦
          let was = subst (λ (g : History). HasUnclosed g o.actor t) (new_place h e o new.1) it in
          closed_grows h e t ∙ or_from (closed h t) (ends t e) was.unclosed (opening_ends_none (length h.events) e o t new.1)
    ]

-- in a legal history what its owner had not closed when it opened a scope is unclosed while that scope is
pub unclosed_around : (L : Limits) (h : History) (s t : ℕ) (o : Opening) → Legal L h → opening h s ≡ Some o → closed h s ≡ false → HasUnclosed (before h o.place) o.actor t → closed h t ≡ false
unclosed_around L h s t o legal is unclosed it = along L UnclosedAround around_start (λ g e lawful ok so. around_step L g e ok so) h legal s t o is unclosed it

-- what is closed before a place is closed in the whole history
pub closed_later : (h : History) (n s : ℕ) → closed (before h n) s ≡ true → closed h s ≡ true
closed_later h n s so = later (λ g. closed g s ≡ true) (λ g e was. closed_stays g e s was) h n so

-- what the actor opened is closed after the end of the close of scope s: s itself, what came later, and what was closed when s was opened
closed_after_end : (L : Limits) (h : History) (b s t : ℕ) (o x : Opening) → Legal L h → EndRow h b s → opening h s ≡ Some o → opening h t ≡ Some x → x.actor ≡ b → (opening (before h o.place) t ≡ Some x → closed (before h o.place) t ≡ true) → closed (followed h (EndClose b s)) t ≡ true
closed_after_end L h b s t o x legal row is opened by older =
    elim (cases_order s t) [
      | inl same ↦ closed_grows h (EndClose b s) t ∙ (ap (λ c. closed h t || c) (eq-eqb s t same) ∙ or_right (closed h t) true refl)
      | inr apart ↦ elim apart [
        | inl more ↦ closed_stays h (EndClose b s) t (innermost_later h b s t x row.innermost opened by more)
        | inr less ↦ closed_stays h (EndClose b s) t (closed_later h o.place t (older (opened_first L h t s x o legal opened is less)))
      ]
    ]

after_end_by : (L : Limits) (h : History) (b s : ℕ) (o : Opening) (i : Option ℕ) → Legal L h → EndRow h b s → opening h s ≡ Some o → o.actor ≡ b → innermost (before h o.place) b ≡ i → innermost (followed h (EndClose b s)) b ≡ i
after_end_by L h b s o None legal row is by none =
    innermost_is_none (followed h (EndClose b s)) b
    (λ t x opened own. closed_after_end L h b s t o x legal row is (sym (opening_same h (EndClose b s) t refl) ∙ opened) own (λ was. innermost_none (before h o.place) b t x none was own))
after_end_by L h b s o (Some t) legal row is by some =
    let g = before h o.place in
    let it = innermost_unclosed g b t some in
    let opened = opening_later h o.place t it.opened it.is in
    let number = opened_after g t it.opened it.is in
    let apart = ne_eqb s t (λ same. absurd (omega (arith, opening_number h s o is, number.1, number.2, same))) in
    let unclosed = unclosed_around L h s t o legal is row.unclosed (subst (λ (a : ℕ). HasUnclosed g a t) (sym by) it) in
    innermost_is (followed h (EndClose b s)) b t
    (record { opened = it.opened; is = opening_stays h (EndClose b s) t it.opened opened; by = it.by; unclosed = closed_grows h (EndClose b s) t ∙ or_from (closed h t) (s == t) unclosed apart })
    (λ u x there own more. closed_after_end L h b s u o x legal row is (sym (opening_same h (EndClose b s) u refl) ∙ there) own (λ was. innermost_later g b t u x some was own more))

-- after the end of a close the innermost scope of its actor is what it was when the scope was opened
pub innermost_ended : (L : Limits) (h : History) (b s : ℕ) (o : Opening) → Legal L h → Accepts L h (EndClose b s) → opening h s ≡ Some o → innermost (followed h (EndClose b s)) b ≡ innermost (before h o.place) b
innermost_ended L h b s o legal ok is =
    let row = end_close_passed L h b s ok in
    let same : Some row.owner.opened ≡ Some o = sym row.owner.is ∙ is in
    let one : row.owner.opened ≡ o = cc in
    after_end_by L h b s o (innermost (before h o.place) b) legal row is (ap (λ (x : Opening). x.actor) (sym one) ∙ row.owner.by) refl

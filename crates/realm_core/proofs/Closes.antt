-- How the close of a scope goes on to its end.
use Rattle.std.proofs.Common.{ℕ, ◌+◌, ◌<◌, ◌==◌, ◌||◌, ◌∙◌, ◌≡◌, ◌≢◌, ◌≤◌, Bool, None, Option, Some, ap, arith, cond, false, inl, inr, length, refl, sym, true}
use Rattle.realm_core.specs.{CanClose, CanEnd, CloseGoesOn, EndClose, Event, History, Legal, Limits, Opening, closed, closing, followed, innermost, opening, opening_of, option_or, scopes, settled}
use Rattle.realm_core.proofs.Words.{both_ways, cases_lt, closed_grows, closing_stays, eq-eqb, forking_split, innermost_later, innermost_unclosed, ne_eqb, opening_grows, opening_split, or_from, settled_stays, settled_task}
use Rattle.realm_core.proofs.Words.{settled_where_all, unclosed_earlier, unclosed_innermost}
use Rattle.realm_core.proofs.LaterClosing.{later_closing}

begun_later : (L : Limits) (h : History) (a s t : ℕ) (x : Opening) → Legal L h → CanClose h a s → opening h t ≡ Some x → x.actor ≡ a → s ≤ t → closed h t ≡ false → closing h t ≡ true
begun_later L h a s t x legal can it by least unclosed =
    elim (cases_lt s t) [
      | inl more ↦ later_closing L h s t can.opened x legal can.is it (can.by ∙ sym by) more can.begun can.unclosed unclosed
      | inr less ↦ let same : s ≡ t = omega (arith, least, less) in rw (← same) can.begun
    ]

-- the innermost scope can end
ends_next : (L : Limits) (h : History) (a s t : ℕ) → Legal L h → CanClose h a s → innermost h a ≡ Some t → CanEnd h a t
ends_next L h a s t legal can inner =
    let own = innermost_unclosed h a t inner in
    let found = unclosed_innermost h a s (record { opened = can.opened; is = can.is; by = can.by; unclosed = can.unclosed }) in
    let both : Some found.scope ≡ Some t = sym found.is ∙ inner in
    let same : found.scope ≡ t = cc in
    let least : s ≤ t = rw same at found.least in
    record {
      opened = own.opened;
      is = own.is;
      by = own.by;
      begun = begun_later L h a s t own.opened legal can own.is own.by least own.unclosed;
      unclosed = own.unclosed;
      innermost = inner;
      settled = can.done t own.opened own.is own.by least own.unclosed;
    }

settled_still : (L : Limits) (h : History) (a t u : ℕ) → Legal L h → settled h u ≡ true → settled (followed h (EndClose a t)) u ≡ true
settled_still L h a t u legal so =
    settled_where_all (followed h (EndClose a t)) u
    (λ k f is scope. elim (forking_split h (EndClose a t) k f is) [
      | inl old ↦ settled_stays L h (EndClose a t) k f legal old (settled_task h u k f so old scope)
      | inr new ↦ absurd (cc new.1)
    ])

done_still : (L : Limits) (h : History) (a s t u : ℕ) (x : Opening) → Legal L h → CanClose h a s → opening (followed h (EndClose a t)) u ≡ Some x → x.actor ≡ a → s ≤ u → closed (followed h (EndClose a t)) u ≡ false → settled (followed h (EndClose a t)) u ≡ true
done_still L h a s t u x legal can is by least unclosed =
    elim (opening_split h (EndClose a t) u x is) [
      | inl old ↦ settled_still L h a t u legal (can.done u x old by least (unclosed_earlier h (EndClose a t) u unclosed))
      | inr new ↦ absurd (cc new.1)
    ]

opened_still : (h : History) (e : Event) (s : ℕ) (o : Opening) → opening h s ≡ Some o → opening (followed h e) s ≡ Some o
opened_still h e s o is = opening_grows h e s ∙ ap (λ (p : Option Opening). option_or p (cond (scopes h + 1 == s) (opening_of (length h.events) e) None)) is

closes_still : (L : Limits) (h : History) (a s t : ℕ) → Legal L h → CanClose h a s → t ≢ s → CanClose (followed h (EndClose a t)) a s
closes_still L h a s t legal can other = record {
  opened = can.opened;
  is = opened_still h (EndClose a t) s can.opened can.is;
  by = can.by;
  begun = closing_stays h (EndClose a t) s can.begun;
  unclosed = closed_grows h (EndClose a t) s ∙ or_from (closed h s) (t == s) can.unclosed (ne_eqb t s other);
  done = λ u x is by least unclosed. done_still L h a s t u x legal can is by least unclosed;
}

closed_now : (h : History) (a t : ℕ) → closed (followed h (EndClose a t)) t ≡ true
closed_now h a t = closed_grows h (EndClose a t) t ∙ last_so (closed h t) (t == t) (eq-eqb t t refl)
  where
    last_so : (b c : Bool) → c ≡ true → (b || c) ≡ true
    last_so true c so = refl
    last_so false c so = so

lower_then : (h : History) (a t v : ℕ) → innermost h a ≡ Some t → innermost (followed h (EndClose a t)) a ≡ Some v → v < t
lower_then h a t v inner next =
    let own = innermost_unclosed (followed h (EndClose a t)) a v next in
    elim (opening_split h (EndClose a t) v own.opened own.is) [
      | inr new ↦ absurd (cc new.1)
      | inl old ↦
          elim (cases_lt t v) [
            | inl more ↦ absurd (both_ways (closed h v) (unclosed_earlier h (EndClose a t) v own.unclosed) (innermost_later h a t v own.opened inner old own.by more))
            | inr less ↦
                elim (cases_lt v t) [
                  | inl under ↦ under
                  | inr over ↦ let same : v ≡ t = omega (arith, less, over) in absurd (both_ways (closed (followed h (EndClose a t)) t) (rw same at own.unclosed) (closed_now h a t))
                ]
          ]
    ]

pub goes_on : (L : Limits) (h : History) (a s t : ℕ) → Legal L h → CanClose h a s → innermost h a ≡ Some t → CloseGoesOn h a s t
goes_on L h a s t legal can inner = record {
  can_end = ends_next L h a s t legal can inner;
  still = λ other. closes_still L h a s t legal can other;
  lower = λ v next. lower_then h a t v inner next;
}

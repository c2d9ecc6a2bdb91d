-- How the search for what was innermost goes on, and where it ends.
use Rattle.std.specs.Prelude.{◌+◌, ◌<◌, ◌≡◌, ◌≤◌}
use Rattle.run_picture.specs.{ℕ, History, IsLastOf, IsSearched, None, Opening, Option, Some, before, closed, false, innermost, is_some, opened_count, opening, option_and_then}
use Rattle.run_picture.specs.{own_around, true, unwrap_or}
use Rattle.run_picture.proofs.Lemmas.{◌∙◌, ap, arith, before_of_before, cases_eq, cases_lt, closed_later, inl, innermost_is, innermost_is_none, innermost_later, innermost_none, innermost_unclosed}
use Rattle.run_picture.proofs.Lemmas.{inr, length-take, opened_after, opening_before, opening_number, opening_since, opening_within, refl, scope_given, subst, sym}
use Rattle.run_picture.proofs.Befores.{few_opened}

-- the first of two openings stands first
pub opened_sooner : (h : History) (t s : ℕ) (x o : Opening) → opening h t ≡ Some x → opening h s ≡ Some o → t < s → x.place < o.place
opened_sooner h t s x o first second less =
    elim (cases_lt x.place o.place) [
      | inl sooner ↦ sooner
      | inr late ↦
          let more = few_opened (before h x.place) o.place in
          let same = ap opened_count (before_of_before h x.place o.place late) in
          absurd (omega (arith, opening_number h t x first, opening_number h s o second, same, more))
    ]

-- if the candidate is not closed, it is the innermost
pub searched_found : (h : History) (p a c : ℕ) → IsSearched h p a (Some c) → closed (before h p) c ≡ false → innermost (before h p) a ≡ Some c
searched_found h p a c s unclosed =
    let it = s.opened c refl in
    innermost_is (before h p) a c (record { opened = it.opened; is = it.is; by = it.by; unclosed = unclosed }) s.later

-- if none is left, there is none
pub searched_none : (h : History) (p a : ℕ) → IsSearched h p a None → innermost (before h p) a ≡ None
searched_none h p a s = innermost_is_none (before h p) a (λ t o is by. s.later t o is by ((scope_given (before h p) t o is).0))

-- an opening before a place
within_place : (h : History) (p c : ℕ) (o : Opening) → opening (before h p) c ≡ Some o → o.place < p
within_place h p c o is = omega (arith, opening_within (before h p) c o is, length-take p h.events)

-- what was closed at an earlier place is closed
closed_since : (h : History) (i p t : ℕ) → i ≤ p → closed (before h i) t ≡ true → closed (before h p) t ≡ true
closed_since h i p t less there = closed_later (before h p) i t (ap (λ g. closed g t) (before_of_before h p i less) ∙ there)

next_by : (h : History) (p a c : ℕ) (o : Opening) (i : Option ℕ) → IsSearched h p a (Some c) → closed (before h p) c ≡ true → opening (before h p) c ≡ Some o → innermost (before h o.place) a ≡ i → IsSearched h p a i
next_by h p a c o i s ended is inside = record {
  later = λ t x there by more.
      elim (cases_lt c t) [
        | inl behind ↦ s.later t x there by behind
        | inr upto ↦ elim (cases_eq t c) [
          | inl same ↦ ap (closed (before h p)) same ∙ ended
          | inr other ↦
              let sooner = opened_sooner h t c x o (opening_since h t p x there) (opening_since h c p o is) (omega arith) in
              let held = opening_before h t o.place x (opening_since h t p x there) sooner in
              let within = within_place h p c o is in
              closed_since h o.place p t (omega arith) (closed_inside i inside t x held by more)
        ]
      ];
  opened = λ d some.
      let it = innermost_unclosed (before h o.place) a d (inside ∙ some) in
      let before_it = within_place h o.place d it.opened it.is in
      let within = within_place h p c o is in
      record { opened = it.opened; is = opening_before h d p it.opened (opening_since h d o.place it.opened it.is) (omega arith); by = it.by };
}
  where
    closed_inside : (j : Option ℕ) → innermost (before h o.place) a ≡ j → (t : ℕ) (x : Opening) → opening (before h o.place) t ≡ Some x → x.actor ≡ a → unwrap_or j 0 < t → closed (before h o.place) t ≡ true
    closed_inside None e t x held by more = innermost_none (before h o.place) a t x e held by
    closed_inside (Some d) e t x held by more = innermost_later (before h o.place) a d t x e held by more

-- a closed candidate hands on to what was the innermost as it was opened
pub searched_next : (h : History) (p a c : ℕ) → IsSearched h p a (Some c) → closed (before h p) c ≡ true → IsSearched h p a (own_around h c)
searched_next h p a c s ended =
    let it = s.opened c refl in
    next_by h p a c it.opened (own_around h c) s ended it.is
    (ap (innermost (before h it.opened.place)) (sym it.by) ∙ sym (ap (option_and_then (λ (o : Opening). innermost (before h o.place) o.actor)) (opening_since h c p it.opened it.is)))

-- which was opened sooner
pub searched_smaller : (h : History) (p a c d : ℕ) → IsSearched h p a (Some c) → own_around h c ≡ Some d → d < c
searched_smaller h p a c d s some =
    let it = s.opened c refl in
    let here = opening_since h c p it.opened it.is in
    let inside : innermost (before h it.opened.place) it.opened.actor ≡ Some d = sym (ap (option_and_then (λ (o : Opening). innermost (before h o.place) o.actor)) here) ∙ some in
    let found = innermost_unclosed (before h it.opened.place) it.opened.actor d inside in
    omega (arith, opening_number h c it.opened here, (scope_given (before h it.opened.place) d found.opened found.is).1)

-- the search begins at the last one of those before
pub searched_first : (h : History) (s n : ℕ) (o : Opening) (last : Option ℕ) → opening h s ≡ Some o → s ≡ h.base.scopes + 1 + n → IsLastOf h n o.actor last → IsSearched h o.place o.actor last
searched_first h s n o last is numbered it = record {
  later = λ t x there by more.
      absurd (omega (arith, it.later t x (opening_since h t o.place x there) by (omega (arith, opening_number h s o is, (scope_given (before h o.place) t x there).1))));
  opened = λ c some.
      let found = it.opened c some in
      let sooner = opened_sooner h c s found.opened o found.is is (omega (arith, it.within c some)) in
      record { opened = found.opened; is = opening_before h c o.place found.opened found.is sooner; by = found.by };
}

-- a candidate was opened
pub candidate_there : (h : History) (p a c : ℕ) (from : Option ℕ) → IsSearched h p a from → from ≡ Some c → is_some (opening (before h p) c) ≡ true
candidate_there h p a c from s some = ap is_some ((s.opened c some).is)

pub candidate_opened : (h : History) (p a c : ℕ) (from : Option ℕ) → IsSearched h p a from → from ≡ Some c → is_some (opening h c) ≡ true
candidate_opened h p a c from s some = let it = s.opened c some in ap is_some (opening_since h c p it.opened it.is)

-- the steps of the search, with the candidate by its equations
pub step_smaller : (h : History) (p a c : ℕ) (from next : Option ℕ) → IsSearched h p a from → from ≡ Some c → next ≡ own_around h c → unwrap_or next 0 < unwrap_or from 0
step_smaller h p a c from next s some is = subst P (sym some) (by next is)
  where
    P : Option ℕ → Type 0
    P o = unwrap_or next 0 < unwrap_or o 0

    searched : IsSearched h p a (Some c)
    searched = subst (IsSearched h p a) some s

    by : (o : Option ℕ) → o ≡ own_around h c → unwrap_or o 0 < c
    by None same = let it = s.opened c some in (scope_given (before h p) c it.opened it.is).0
    by (Some d) same = searched_smaller h p a c d searched (sym same)

pub step_next : (h : History) (p a c : ℕ) (from next : Option ℕ) → IsSearched h p a from → from ≡ Some c → closed (before h p) c ≡ true → next ≡ own_around h c → IsSearched h p a next
step_next h p a c from next s some ended is = subst (IsSearched h p a) (sym is) (searched_next h p a c (subst (IsSearched h p a) some s) ended)

pub step_found : (h : History) (p a c : ℕ) (from : Option ℕ) → IsSearched h p a from → from ≡ Some c → closed (before h p) c ≡ false → from ≡ innermost (before h p) a
step_found h p a c from s some unclosed = some ∙ sym (searched_found h p a c (subst (IsSearched h p a) some s) unclosed)

pub step_none : (h : History) (p a : ℕ) (from : Option ℕ) → IsSearched h p a from → from ≡ None → from ≡ innermost (before h p) a
step_none h p a from s none = none ∙ sym (searched_none h p a (subst (IsSearched h p a) none s))

-- how many scopes stood before the one with this number was opened
pub opened_then : (h : History) (s n : ℕ) (o : Opening) → opening h s ≡ Some o → s ≡ h.base.scopes + 1 + n → n ≡ opened_count (before h o.place)
opened_then h s n o is numbered = omega (arith, opening_number h s o is)

-- at first there is no last one
pub last_none : (h : History) (a : ℕ) (last : Option ℕ) → last ≡ None → IsLastOf h 0 a last
last_none h a last none = record {
  later = λ t o is by within. let it = opened_after h t o is in absurd (omega (arith, it.2, within));
  opened = λ c some. absurd (cc);
  within = λ c some. absurd (cc);
}

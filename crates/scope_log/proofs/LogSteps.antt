-- What one event more adds to the log of a scope.
use Rattle.std.proofs.Common.{[], ℕ, ◌++◌, ◌+◌, ◌<◌, ◌==◌, ◌∙◌, ◌∷◌, ◌≡◌, ◌≢◌, ◌≤◌, List, None, Option, Some, ap, arith, cond, inl, inr, length, length-append, max, option_map, refl, suc, sym, zero}
use Rattle.scope_log.specs.{Event, FirstCancel, History, Legal, Limits, LogEntry, Opening, Words.cause, cancelled_at, cons_option, entries, entries_at, entries_next, entry_at, entry_of, first_cancel, flat_map, followed}
use Rattle.scope_log.specs.{is_cancelled, mark_at, mark_next, mark_of, opening, option_and_then, range_with_len}
use Rattle.scope_log.proofs.Words.{append-nil, before_last, before_push, cancel_new, cancel_opened, cancel_stays, cancel_within_history, eq-eqb, flat_map-append, get_push, last_event, ne_eqb, opening_place, opening_split}
use Rattle.scope_log.proofs.Words.{opening_stays, opening_within, range_push}
use Rattle.scope_log.specs.declared.entries.LogEntry.TheVariants as entry

-- ---- marks

-- the mark at place i of a scope that was opened and first cancel so
abbrev mark_by : Option Opening → Option FirstCancel → ℕ → Option LogEntry
mark_by o c i = option_and_then (λ (at : ℕ). cond (at == i) (mark_of (option_map (λ (x : FirstCancel). x.cause) c)) None) (option_and_then (λ (y : Opening). option_map (λ (x : FirstCancel). max y.place x.place) c) o)

mark_is : (h : History) (s i : ℕ) → mark_at h s i ≡ mark_by (opening h s) (first_cancel h s) i
unfolding cancelled_at cause
mark_is h s i = refl

same_mark : (o p : Option Opening) (c d : Option FirstCancel) (i : ℕ) → o ≡ p → c ≡ d → mark_by o c i ≡ mark_by p d i
same_mark o p c d i opened cancel_so = rw opened (rw cancel_so refl)

no_mark : (o : Option Opening) (i : ℕ) → mark_by o None i ≡ None
no_mark None i = refl
no_mark (Some o) i = refl

mark_elsewhere : (o : Opening) (c : FirstCancel) (i : ℕ) → max o.place c.place ≢ i → mark_by (Some o) (Some c) i ≡ None
mark_elsewhere o c i other = ap (λ b. cond b (Some (entry.Cancelled c.cause)) None) (ne_eqb (max o.place c.place) i other)

mark_here : (o : Opening) (c : FirstCancel) (i : ℕ) → max o.place c.place ≡ i → mark_by (Some o) (Some c) i ≡ Some (entry.Cancelled c.cause)
mark_here o c i here = ap (λ b. cond b (Some (entry.Cancelled c.cause)) None) (eq-eqb (max o.place c.place) i here)

module _ (L : Limits) (h : History) (e : Event) (s : ℕ) (legal : Legal L h) where
  -- an old mark stands before the event
  old_place : (c : FirstCancel) (o : Opening) → first_cancel h s ≡ Some c → opening h s ≡ Some o → max o.place c.place < length h.events
  old_place c o was opened = omega (arith, cancel_within_history h s c was, opening_within h s o opened)

  -- a new one stands at it
  new_place : (c : FirstCancel) (o : Opening) → first_cancel h s ≡ None → first_cancel (followed h e) s ≡ Some c → opening (followed h e) s ≡ Some o → max o.place c.place ≡ length h.events
  new_place c o none is opened = elim (opening_split h e s o opened) [
    | inl old ↦
        let at = cancel_new L h e s c legal (record { opened = o; is = old }) none is in
        omega (arith, at, opening_within h s o old)
    | inr new ↦
        let at = opening_place (length h.events) e o new.1 in
        omega (arith, at, cancel_within_history (followed h e) s c is, length-append h.events (e ∷ []))
  ]

  marks_stay : (i : ℕ) → i < length h.events → mark_at (followed h e) s i ≡ mark_at h s i
  marks_stay i within = mark_is (followed h e) s i ∙ (by (first_cancel h s) (first_cancel (followed h e) s) refl refl ∙ sym (mark_is h s i))
    where
      by : (c d : Option FirstCancel) → first_cancel h s ≡ c → first_cancel (followed h e) s ≡ d → mark_by (opening (followed h e) s) (first_cancel (followed h e) s) i ≡ mark_by (opening h s) (first_cancel h s) i
      by (Some c) d was is =
          let it = cancel_opened h s c (opening h s) was refl in
          same_mark _ _ _ _ i (opening_stays h e s it.opened it.is ∙ sym it.is) (cancel_stays L h e s c legal was ∙ sym was)
      by None None was is =
          same_mark _ _ _ _ i refl is ∙ (no_mark (opening (followed h e) s) i ∙ sym (same_mark _ _ _ _ i refl was ∙ no_mark (opening h s) i))
      by None (Some d) was is =
          let it = cancel_opened (followed h e) s d (opening (followed h e) s) is refl in
          let at = new_place d it.opened was is it.is in
          same_mark _ _ _ _ i it.is is
          ∙ (mark_elsewhere it.opened d i (λ same. absurd (omega (arith, same, at, within)))
          ∙ sym (same_mark _ _ _ _ i refl was ∙ no_mark (opening h s) i))

  mark_new : mark_at (followed h e) s (length h.events) ≡ mark_next h e s
  unfolding is_cancelled cause
  mark_new = mark_is (followed h e) s (length h.events) ∙ by (first_cancel h s) (first_cancel (followed h e) s) refl refl
    where
      by : (c d : Option FirstCancel) → first_cancel h s ≡ c → first_cancel (followed h e) s ≡ d → mark_by (opening (followed h e) s) (first_cancel (followed h e) s) (length h.events) ≡ mark_next h e s
      by (Some c) d was is =
          let it = cancel_opened h s c (opening h s) was refl in
          let early = old_place c it.opened was it.is in
          same_mark _ _ _ _ (length h.events) (opening_stays h e s it.opened it.is) (cancel_stays L h e s c legal was)
          ∙ (mark_elsewhere it.opened c (length h.events) (λ same. absurd (omega (arith, same, early)))
          ∙ rw was refl)
      by None None was is = same_mark _ _ _ _ (length h.events) refl is ∙ (no_mark (opening (followed h e) s) (length h.events) ∙ rw was (rw is refl))
      by None (Some d) was is =
          let it = cancel_opened (followed h e) s d (opening (followed h e) s) is refl in
          same_mark _ _ _ _ (length h.events) it.is is
          ∙ (mark_here it.opened d (length h.events) (new_place d it.opened was is it.is)
          ∙ rw was (rw is refl))

-- ---- entries

entry_stays : (h : History) (e : Event) (s i : ℕ) → i < length h.events → entry_at (followed h e) s i ≡ entry_at h s i
entry_stays h e s i within = rw (before_push h e i (omega arith)) (rw (get_push h.events e i within) refl)

entry_new : (h : History) (e : Event) (s : ℕ) → entry_at (followed h e) s (length h.events) ≡ entry_of h s e
entry_new h e s = rw (before_last h e) (rw (last_event h.events e) refl)

-- what agrees on the numbers of a range gives the same list
pub flat_map_same : {A : Type 0} (f g : ℕ → List A) (a n : ℕ) → ((i : ℕ) → a ≤ i → i < a + n → f i ≡ g i) → flat_map f (range_with_len a n) ≡ flat_map g (range_with_len a n)
flat_map_same f g a zero same = refl
flat_map_same f g a (suc n) same = rw (same a (omega arith) (omega arith)) (ap (λ xs. g a ++ xs) (flat_map_same f g (a + 1) n (λ i above below. same i (omega (arith, above)) (omega (arith, below)))))

-- one number more of a range adds what it gives
pub flat_map_more : {A : Type 0} (f : ℕ → List A) (a n : ℕ) → flat_map f (range_with_len a (n + 1)) ≡ flat_map f (range_with_len a n) ++ f (a + n)
flat_map_more f a n =
    ap (flat_map f) (range_push a n)
    ∙ (flat_map-append f (range_with_len a n) ((a + n) ∷ []) ∙ ap (λ xs. flat_map f (range_with_len a n) ++ xs) (append-nil (f (a + n))))

both_same : (x y p q : Option LogEntry) → x ≡ y → p ≡ q → cons_option x (cons_option p []) ≡ cons_option y (cons_option q [])
both_same x y p q first second = rw first (rw second refl)

-- the entries of a scope go on with the event's, if it names the scope or a task of it, and with the
-- mark, if the scope becomes cancelled by it
pub entries_grow : (L : Limits) (h : History) (e : Event) (s : ℕ) → Legal L h → entries (followed h e) s ≡ entries h s ++ entries_next h e s
unfolding entries
entries_grow L h e s legal =
    let g = followed h e in
    let n = length h.events in
    let longer : length (h.events ++ e ∷ []) ≡ n + 1 = length-append h.events (e ∷ []) ∙ omega arith in
    let old = flat_map_same (entries_at g s) (entries_at h s) 0 n (λ i above below. both_same _ _ _ _ (entry_stays h e s i (omega (arith, below))) (marks_stay L h e s legal i (omega (arith, below)))) in
    let at : 0 + n ≡ n = omega arith in
    let new : entries_at g s n ≡ entries_next h e s = both_same _ _ _ _ (entry_new h e s) (mark_new L h e s legal) in
    ap (λ m. flat_map (entries_at g s) (range_with_len 0 m)) longer
    ∙ (flat_map_more (entries_at g s) 0 n
    ∙ (ap (λ xs. xs ++ entries_at g s (0 + n)) old
    ∙ ap (λ xs. entries h s ++ xs) (ap (entries_at g s) at ∙ new)))

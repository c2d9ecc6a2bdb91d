-- The line that is known of an event is the one whose command recorded it.
use Rattle.std.specs.Prelude.{if◌then◌else◌, ◌++◌, ◌+◌, ◌<◌, ◌==◌, ◌∷◌, ◌≡◌, ◌⊎◌}
use Rattle.script_jobs.specs.{[], ℕ, Ask, Bool, Command, Do, Event, Limits, Line, LinesRecord, List, Noting.Noting, Realm, RecordedAt, Retire, Some, base_of}
use Rattle.script_jobs.specs.{false, is_accepted, is_ok, length, line_said, lines_after, nat_lt, noting_after, noting_after_lines, noting_begins, noting_of_lines, realm_after}
use Rattle.script_jobs.specs.{realm_after_line, retire_check, slice_get, starting, true, with_event}
use Rattle.script_jobs.proofs.Words.{◌∙◌, ap, append-nil, append_assoc, arith, eq-eqb, eqb-true, inl, inr, le-ltb, length-append, lt-ltb, ne_eqb, refl, subst, suc, sym, zero}

-- ---- one more in a list

get_more : {A : Type 0} (xs : List A) (x : A) (i : ℕ) (y : A) → slice_get (xs ++ x ∷ []) i ≡ Some y → (slice_get xs i ≡ Some y) ⊎ ((i ≡ length xs) × (x ≡ y))
get_more [] x zero y is = inr (refl, cc)
get_more [] x (suc i) y is = absurd cc
get_more (a ∷ rest) x zero y is = inl is
get_more (a ∷ rest) x (suc i) y is = elim (get_more rest x i y is) [ inl within ↦ inl within | inr last ↦ inr (ap suc last.0, last.1) ]

get_left : {A : Type 0} (xs : List A) (x : A) (i : ℕ) (y : A) → slice_get xs i ≡ Some y → slice_get (xs ++ x ∷ []) i ≡ Some y
get_left [] x i y is = absurd cc
get_left (a ∷ rest) x zero y is = is
get_left (a ∷ rest) x (suc i) y is = get_left rest x i y is

get_end : {A : Type 0} (xs : List A) (x : A) → slice_get (xs ++ x ∷ []) (length xs) ≡ Some x
get_end [] x = refl
get_end (a ∷ rest) x = get_end rest x

-- of no events there is none at any place
no_event : {X : Type 0} (i : ℕ) (e : Event) → slice_get [] i ≡ Some e → X
no_event i e at = absurd cc

-- ---- one more line

after_append : (s : Noting) (xs : List (List ℕ)) (line : List ℕ) → noting_after_lines s (xs ++ line ∷ []) ≡ noting_after (noting_after_lines s xs) (line_said line)
unfolding noting_after_lines
after_append s [] line = refl
after_append s (x ∷ xs) line = after_append (noting_after s (line_said x)) xs line

module _ (L : Limits) where
  -- of each event so far the line is known
  record Known (before : List (List ℕ)) (s : Noting) : Type 0 where
    pub number : s.number ≡ length before + 1
    pub many : length s.lines ≡ length s.realm.history.events
    pub each : (i : ℕ) (e : Event) → slice_get s.realm.history.events i ≡ Some e → (n : ℕ) × (slice_get s.lines i ≡ Some n) × RecordedAt L before n i e

  further : (before : List (List ℕ)) (line : List ℕ) (n i : ℕ) (e : Event) → RecordedAt L before n i e → RecordedAt L (before ++ line ∷ []) n i e
  further before line n i e it = record {
    front = it.front;
    line = it.line;
    back = it.back ++ line ∷ [];
    whole = ap (λ (ls : List (List ℕ)). ls ++ line ∷ []) it.whole ∙ append_assoc it.front (it.line ∷ it.back) (line ∷ []);
    numbered = it.numbered;
    says = it.says;
    placed = it.placed;
  }

  module _ (before : List (List ℕ)) (line : List ℕ) (s : Noting) (is : s ≡ noting_of_lines L before) (few : length before < 18446744073709551614) (known : Known before s) where
    next_number : (if s.number == 18446744073709551615 then s.number else s.number + 1) ≡ length (before ++ line ∷ []) + 1
    next_number =
        let other : (s.number == 18446744073709551615) ≡ false = ne_eqb _ _ (λ same. omega (arith, known.number, same, few)) in
        rw other (omega (arith, length-append before (line ∷ []), known.number))

    -- what a state must have of the realm and the lines that the line leaves
    abbrev Next : Realm → List ℕ → Type 0
    Next realm lines = (length lines ≡ length realm.history.events) × ((i : ℕ) (e : Event) → slice_get realm.history.events i ≡ Some e → (n : ℕ) × (slice_get lines i ≡ Some n) × RecordedAt L (before ++ line ∷ []) n i e)

    -- nothing was recorded
    same_next : Next s.realm (lines_after s.lines s.number s.realm.history s.realm.history)
    same_next = rw (eq-eqb (length s.realm.history.events) (length s.realm.history.events) refl) (known.many, λ i e at. (let was = known.each i e at in (was.0, was.1, further before line was.0 i e was.2)))

    -- an event was
    more_next : (e : Event) → line_said line ≡ Line.Command (Do e) → Next (with_event s.realm e) (lines_after s.lines s.number s.realm.history (with_event s.realm e).history)
    more_next e says =
        let events = s.realm.history.events in
        let longer : length (events ++ e ∷ []) ≡ length events + 1 = length-append events (e ∷ []) in
        let other : (length (events ++ e ∷ []) == length events) ≡ false = ne_eqb _ _ (λ same. omega (arith, longer, same)) in
        let later : nat_lt (length events) (length (events ++ e ∷ [])) ≡ true = lt-ltb _ _ (omega (arith, longer)) in
        rw (other, later) (
          omega (arith, length-append s.lines (s.number ∷ []), longer, known.many),
          λ i f at. elim (get_more events e i f at) [
            | inl within ↦ (let was = known.each i f within in (was.0, get_left s.lines s.number i was.0 was.1, further before line was.0 i f was.2))
            | inr last ↦ (
              s.number,
              subst (λ k. slice_get (s.lines ++ s.number ∷ []) k ≡ Some s.number) (known.many ∙ sym last.0) (get_end s.lines s.number),
              record {
                front = before;
                line = line;
                back = [];
                whole = refl;
                numbered = known.number;
                says = says ∙ ap (λ (g : Event). Line.Command (Do g)) last.1;
                placed = ap (λ (u : Noting). length u.realm.history.events) (sym is) ∙ sym last.0;
              },
            )
          ],
        )

    -- all events were discarded
    none_next : (realm : Realm) → realm.history.events ≡ [] → Next realm (lines_after s.lines s.number s.realm.history realm.history)
    none_next realm none = rw none (go (0 == length s.realm.history.events) refl, λ i e at. no_event i e at)
      where
        go : (b : Bool) → (0 == length s.realm.history.events) ≡ b → length (if b then s.lines else if nat_lt (length s.realm.history.events) 0 then s.lines ++ s.number ∷ [] else []) ≡ 0
        go true zero_is = known.many ∙ sym (eqb-true _ _ zero_is)
        go false some = rw (le-ltb (length s.realm.history.events) 0 (omega arith)) refl

    retired : (b : Bool) (realm : Realm) → realm ≡ (if b then starting s.realm.limits (base_of s.realm.history) else s.realm) → Next realm (lines_after s.lines s.number s.realm.history realm.history)
    retired true realm is = none_next realm (ap (λ (r : Realm). r.history.events) is)
    retired false realm is = subst (λ (r : Realm). Next r (lines_after s.lines s.number s.realm.history r.history)) (sym is) same_next

    done : (e : Event) → line_said line ≡ Line.Command (Do e) → (b : Bool) (realm : Realm) → realm ≡ (if b then with_event s.realm e else s.realm) → Next realm (lines_after s.lines s.number s.realm.history realm.history)
    done e says true realm is = subst (λ (r : Realm). Next r (lines_after s.lines s.number s.realm.history r.history)) (sym is) (more_next e says)
    done e says false realm is = subst (λ (r : Realm). Next r (lines_after s.lines s.number s.realm.history r.history)) (sym is) same_next

    by_command : (c : Command) → line_said line ≡ Line.Command c → Next (realm_after s.realm c) (lines_after s.lines s.number s.realm.history (realm_after s.realm c).history)
    unfolding realm_after
    by_command (Do e) says = done e says (is_accepted s.realm e) (if is_accepted s.realm e then with_event s.realm e else s.realm) refl
    by_command (Retire actor) says = retired (is_ok (retire_check s.realm.history actor)) (if is_ok (retire_check s.realm.history actor) then starting s.realm.limits (base_of s.realm.history) else s.realm) refl
    by_command (Ask query) says = same_next

    by_line : (l : Line) → line_said line ≡ l → Next (realm_after_line s.realm l) (lines_after s.lines s.number s.realm.history (realm_after_line s.realm l).history)
    unfolding realm_after_line
    by_line Line.Silent says = same_next
    by_line Line.BadWord says = same_next
    by_line (Line.Command c) says = by_command c says

    known_next : Known (before ++ line ∷ []) (noting_after s (line_said line))
    known_next = let next = by_line (line_said line) refl in record { number = next_number; many = next.0; each = next.1 }

  -- the lines that are left, one by one
  known_all : (before lines : List (List ℕ)) → length (before ++ lines) < 18446744073709551614 → Known before (noting_of_lines L before) → Known (before ++ lines) (noting_of_lines L (before ++ lines))
  known_all before [] few known = subst (λ (ls : List (List ℕ)). Known ls (noting_of_lines L ls)) (sym (append-nil before)) known
  known_all before (line ∷ lines) few known =
      let same : (before ++ line ∷ []) ++ lines ≡ before ++ line ∷ lines = append_assoc before (line ∷ []) lines in
      let short : length before < 18446744073709551614 = omega (arith, few, length-append before (line ∷ lines)) in
      let next : Known (before ++ line ∷ []) (noting_of_lines L (before ++ line ∷ [])) =
      subst (λ (u : Noting). Known (before ++ line ∷ []) u) (sym (after_append (noting_begins L) before line)) (known_next before line (noting_of_lines L before) refl short known) in
      subst (λ (ls : List (List ℕ)). Known ls (noting_of_lines L ls)) same
      (known_all (before ++ line ∷ []) lines (subst (λ (ls : List (List ℕ)). length ls < 18446744073709551614) (sym same) few) next)

  known_begins : Known [] (noting_of_lines L [])
  unfolding noting_after_lines
  known_begins = record { number = refl; many = refl; each = λ i e at. no_event i e at }

pub lines_record : LinesRecord
lines_record L lines few i e at = (known_all L [] lines few (known_begins L)).each i e at

-- From the scope inwards, the tickets of each scope's tasks are brought behind those before.
use Rattle.std.proofs.Common.{ℕ, ◌&&◌, ◌+◌, ◌<◌, ◌==◌, ◌||◌, ◌∙◌, ◌≡◌, ◌≢◌, ◌≤◌, Bool, IsPermutation, IsSome, List, None, Option, Some, ap, arith, cond, count_by, false, inl, inr, length, nat_lt, not, refl, slice_get, subst, sym}
use Rattle.std.proofs.Common.{take, true}
use Rattle.realm_core.specs.{AllEnded, ArePlaced, AreTicketsOf, Forking, History, IsMissing, Opening, TicketValue, closed, covers, forking, got_thread, has_ended, have_one_opener, inner, is_due, is_ended_ticket_of, is_task_of}
use Rattle.realm_core.specs.{is_ticket_of, one_if, opening, option_map_or}
use Rattle.realm_core.proofs.Words.{All-permutation, HasUnclosed, IsPermutation-refl, IsPermutation-sym, IsPermutation-trans, and_parts, both_ways, cases_lt, eq-eqb, eqb-true, false_from_ne_true, lt-ltb, ltb-true, ne_eqb}
use Rattle.realm_core.proofs.Words.{not-true, slice_get_cases, sum_by-IsPermutation, take-length}
use Rattle.realm_core.proofs.{TicketCounts.all_at, TicketCounts.count_first, TicketCounts.count_one_more, TicketCounts.count_up_to, Walks.inner_is, Walks.inner_none}

-- ---- what the close covers

covered_by : (h : History) (t : ℕ) (b c : Bool) (p q : Option Opening) → opening h t ≡ q → (b || (c && have_one_opener p q)) ≡ true → b ≡ false → (o : Opening) → p ≡ Some o → (c ≡ true) × ((x : Opening) × (opening h t ≡ Some x) × (x.actor ≡ o.actor))
covered_by h t true c p q at so other o is = absurd (cc other)
covered_by h t false true (Some v) (Some x) at so other o is =
    let one : v ≡ o = cc in
    (refl, (x, at, sym (eqb-true v.actor x.actor so) ∙ ap (λ (z : Opening). z.actor) one))
covered_by h t false false p q at so other o is = absurd (cc so)
covered_by h t false true None q at so other o is = absurd (cc so)
covered_by h t false true (Some v) None at so other o is = absurd (cc so)

-- a scope that the close of scope s covers is s, or a later one of its owner's that is not closed
pub covered_later : (h : History) (s t : ℕ) (o : Opening) → opening h s ≡ Some o → covers h s t ≡ true → s ≢ t → (s < t) × HasUnclosed h o.actor t
unfolding covers
covered_later h s t o is covered other =
    let it = covered_by h t (s == t) (nat_lt s t && not (closed h t)) (opening h s) (opening h t) refl covered (ne_eqb s t other) o is in
    let parts = and_parts (nat_lt s t) (not (closed h t)) it.0 in
    (ltb-true s t parts.0, record { opened = it.1.0; is = it.1.1; by = it.1.2; unclosed = not-true (closed h t) parts.1 })

pub later_covered : (h : History) (s t : ℕ) (o : Opening) → opening h s ≡ Some o → HasUnclosed h o.actor t → s ≤ t → covers h s t ≡ true
unfolding covers
later_covered h s t o is it from = elim (cases_lt s t) [
  | inl under ↦ rw (lt-ltb s t under, it.unclosed, is, it.is, eq-eqb o.actor it.opened.actor (sym it.by)) (or_yes (s == t))
  | inr over ↦ let same : s ≡ t = omega (arith, from, over) in rw (eq-eqb s t same) refl
]
  where
    or_yes : (b : Bool) → (b || true) ≡ true
    or_yes true = refl
    or_yes false = refl

-- ---- the tasks of the scopes before the next

abbrev is_below : Option ℕ → ℕ → Bool
is_below None t = true
is_below (Some n) t = nat_lt t n

-- task k is due, and of a scope before the next, if there is a next
abbrev due_before : History → ℕ → Option ℕ → ℕ → Bool
due_before h s next k = option_map_or (λ (f : Forking). covers h s f.scope && is_below next f.scope) (forking h k) false && got_thread h k

-- the next scope is one of those that the close covers
abbrev IsMeeting : History → ℕ → ℕ → Option ℕ → Type 0
IsMeeting h a s None = Unit {0}
IsMeeting h a s (Some n) = HasUnclosed h a n × (s ≤ n)

and_yes : (b : Bool) → (b && true) ≡ b
and_yes true = refl
and_yes false = refl

and_no : (b : Bool) → (b && false) ≡ false
and_no true = refl
and_no false = refl

due_all : (h : History) (s k : ℕ) → due_before h s None k ≡ is_due h s k
unfolding is_due
due_all h s k = by (forking h k)
  where
    by : (o : Option Forking) → (option_map_or (λ (f : Forking). covers h s f.scope && true) o false && got_thread h k) ≡ (option_map_or (λ (f : Forking). covers h s f.scope) o false && got_thread h k)
    by None = refl
    by (Some f) = ap (λ b. b && got_thread h k) (and_yes (covers h s f.scope))

-- where scope t stands, beside n and what comes next
one_by_one : (c below next same g : Bool) → (c && next) ≡ ((c && below) || same) → (below ≡ true → same ≡ false) → one_if ((c && next) && g) ≡ one_if ((c && below) && g) + one_if (same && g)
one_by_one true true next true g is apart = absurd (cc (apart refl))
one_by_one true true true false g is apart = omega arith
one_by_one true true false false g is apart = absurd cc
one_by_one true false next same g is apart = ap (λ b. one_if (b && g)) is ∙ omega arith
one_by_one false below next same g is apart = ap (λ b. one_if (b && g)) is ∙ omega arith

or_no : (b : Bool) → b ≡ (b || false)
or_no true = refl
or_no false = refl

or_also : (b : Bool) → true ≡ (b || true)
or_also true = refl
or_also false = refl

not_less : (t n : ℕ) → n ≤ t → nat_lt t n ≡ false
not_less t n above = false_from_ne_true (nat_lt t n) (λ less. let under = ltb-true t n less in absurd (omega (arith, under, above)))

module _ (h : History) (a s n : ℕ) (o : Opening) (is : opening h s ≡ Some o) (by : o.actor ≡ a) (it : HasUnclosed h a n) (from : s ≤ n) where
  -- what comes next is later
  next_above : (t : ℕ) (next : Option ℕ) → next ≡ inner h n → t ≤ n → is_below next t ≡ true
  next_above t None so under = refl
  next_above t (Some m) so under = let next = inner_is h a n m it.opened it.is it.by (sym so) in let later = next.later in lt-ltb t m (omega (arith, later, under))

  -- and no covered scope lies between
  none_between : (t : ℕ) (next : Option ℕ) → next ≡ inner h n → n < t → covers h s t ≡ true → is_below next t ≡ false
  none_between t next so past covered = by_next next so
    where
      there : HasUnclosed h a t
      there = subst (λ m. HasUnclosed h m t) by (covered_later h s t o is covered (λ same. omega (arith, same, from, past))).1

      by_next : (next : Option ℕ) → next ≡ inner h n → is_below next t ≡ false
      by_next None so = absurd (inner_none h a n it.opened it.is it.by (sym so) t there past)
      by_next (Some m) so =
          let next = inner_is h a n m it.opened it.is it.by (sym so) in
          elim (cases_lt t m) [ inl under ↦ absurd (next.gap t there past under) | inr over ↦ not_less t m over ]

  -- so a covered scope before what comes next is one before n, or n
  next_covers : (t : ℕ) (next : Option ℕ) → next ≡ inner h n → (covers h s t && is_below next t) ≡ ((covers h s t && nat_lt t n) || (t == n))
  next_covers t next so = elim (cases_lt t n) [
    | inl under ↦
        let apart : t ≢ n = λ same. omega (arith, same, under) in
        rw (next_above t next so (omega (arith, under)), lt-ltb t n under, ne_eqb t n apart) (or_no (covers h s t && true))
    | inr over ↦ elim (cases_lt n t) [
      | inl past ↦
          let apart : t ≢ n = λ same. omega (arith, same, past) in
          rw (not_less t n over, ne_eqb t n apart) (beyond past (covers h s t) refl)
      | inr below ↦
          let same : t ≡ n = omega (arith, over, below) in
          let covered = later_covered h s t o is (subst (λ m. HasUnclosed h m t) (sym by) (subst (HasUnclosed h a) (sym same) it)) (omega (arith, from, over)) in
          rw (covered, next_above t next so below, eq-eqb t n same) (or_also (nat_lt t n))
    ]
  ]
    where
      beyond : n < t → (c : Bool) → covers h s t ≡ c → (c && is_below next t) ≡ ((c && false) || false)
      beyond past true covered = none_between t next so past covered
      beyond past false covered = refl

  due_next : (k : ℕ) (next : Option ℕ) → next ≡ inner h n → one_if (due_before h s next k) ≡ one_if (due_before h s (Some n) k) + one_if (is_task_of h n k && got_thread h k)
  unfolding is_task_of
  due_next k next so = by_fork (forking h k)
    where
      by_fork : (f : Option Forking) → one_if (option_map_or (λ (f : Forking). covers h s f.scope && is_below next f.scope) f false && got_thread h k) ≡ one_if (option_map_or (λ (f : Forking). covers h s f.scope && nat_lt f.scope n) f false && got_thread h k) + one_if (option_map_or (λ (f : Forking). f.scope == n) f false && got_thread h k)
      by_fork None = omega arith
      by_fork (Some f) = one_by_one (covers h s f.scope) (nat_lt f.scope n) (is_below next f.scope) (f.scope == n) (got_thread h k) (next_covers f.scope next so) (λ under. let less = ltb-true f.scope n under in ne_eqb f.scope n (λ same. omega (arith, same, less)))

  -- a task of scope n is due, and of no scope before it
  task_due : (k : ℕ) → is_task_of h n k ≡ true → got_thread h k ≡ true → (is_due h s k ≡ true) × (due_before h s (Some n) k ≡ false)
  unfolding is_task_of is_due
  task_due k of got = by_fork (forking h k) refl of
    where
      by_fork : (f : Option Forking) → forking h k ≡ f → option_map_or (λ (f : Forking). f.scope == n) f false ≡ true → ((option_map_or (λ (f : Forking). covers h s f.scope) f false && got_thread h k) ≡ true) × ((option_map_or (λ (f : Forking). covers h s f.scope && nat_lt f.scope n) f false && got_thread h k) ≡ false)
      by_fork None at there = absurd cc
      by_fork (Some f) at there =
          let same : f.scope ≡ n = eqb-true f.scope n there in
          let covered = later_covered h s f.scope o is (subst (λ m. HasUnclosed h m f.scope) (sym by) (subst (HasUnclosed h a) (sym same) it)) (omega (arith, from, same)) in
          (rw (covered, got) refl, rw (not_less f.scope n (omega (arith, same)), and_no (covers h s f.scope)) refl)

-- ---- the tickets so far

pub record IsGathering (h : History) (s : ℕ) (old now : List TicketValue) (placed : ℕ) (next : Option ℕ) : Type 0 where
  pub opened : Opening
  pub is : opening h s ≡ Some opened
  pub meets : IsMeeting h opened.actor s next
  pub same : IsPermutation old now
  pub within : placed ≤ length now
  pub each : (k : ℕ) → count_by (is_ticket_of k) (take placed now) ≡ one_if (due_before h s next k)
  pub ended : AllEnded (take placed now)

pub gathering_begins : (h : History) (s : ℕ) (old : List TicketValue) → IsSome (opening h s) → closed h s ≡ false → IsGathering h s old old 0 (Some s)
gathering_begins h s old there unclosed = by (opening h s) refl there
  where
    none_yet : (o : Opening) → opening h s ≡ Some o → (k : ℕ) → 0 ≡ one_if (due_before h s (Some s) k)
    none_yet o is k = ap one_if (sym (by_fork (forking h k)))
      where
        not_before : (t : ℕ) → (covers h s t && nat_lt t s) ≡ false
        not_before t = elim (cases_lt t s) [
          | inl under ↦ ap (λ b. b && nat_lt t s) (false_from_ne_true (covers h s t) (λ covered. let later = (covered_later h s t o is covered (λ same. omega (arith, same, under))).0 in absurd (omega (arith, later, under))))
          | inr over ↦ ap (λ b. covers h s t && b) (not_less t s over) ∙ and_no (covers h s t)
        ]

        by_fork : (f : Option Forking) → (option_map_or (λ (f : Forking). covers h s f.scope && nat_lt f.scope s) f false && got_thread h k) ≡ false
        by_fork None = refl
        by_fork (Some f) = ap (λ b. b && got_thread h k) (not_before f.scope)

    by : (o : Option Opening) → opening h s ≡ o → IsSome o → IsGathering h s old old 0 (Some s)
    by None is there = absurd cc
    by (Some o) is there = record {
      opened = o;
      is = is;
      meets = (record { opened = o; is = is; by = refl; unclosed = unclosed }, omega arith);
      same = IsPermutation-refl old;
      within = omega arith;
      each = λ k. none_yet o is k;
      ended = λ k d under. absurd (omega (arith, under));
    }

meets_next : (h : History) (a s n : ℕ) (next : Option ℕ) → HasUnclosed h a n → s ≤ n → next ≡ inner h n → IsMeeting h a s next
meets_next h a s n None it from so = tt
meets_next h a s n (Some m) it from so = let next = inner_is h a n m it.opened it.is it.by (sym so) in let later = next.later in (next.unclosed, omega (arith, later, from))

pub gathering_goes_on : (h : History) (s n placed more : ℕ) (old now new : List TicketValue) (next : Option ℕ) → IsGathering h s old now placed (Some n) → IsPermutation now new → ArePlaced h n placed more now new → next ≡ inner h n → IsGathering h s old new more next
gathering_goes_on h s n placed more old now new next so_far moved placing so = record {
  opened = so_far.opened;
  is = so_far.is;
  meets = meets_next h so_far.opened.actor s n next so_far.meets.0 so_far.meets.1 so;
  same = IsPermutation-trans old now new so_far.same moved;
  within = placing.within;
  each = λ k. placing.each k ∙ (ap (λ m. m + one_if (is_task_of h n k && got_thread h k)) (so_far.each k) ∙ sym (due_next h so_far.opened.actor s n so_far.opened so_far.is refl so_far.meets.0 so_far.meets.1 k next so));
  ended = placing.ended so_far.ended;
}

-- the tickets in another order
same_tickets : (h : History) (s : ℕ) (old new : List TicketValue) → IsPermutation old new → AreTicketsOf h s old → AreTicketsOf h s new
same_tickets h s old new moved it = record {
  each = λ k. sum_by-IsPermutation (λ (t : TicketValue). cond (is_ticket_of k t) 1 0) old new moved ∙ it.each k;
  ended = All-permutation (λ (t : TicketValue). has_ended t ≡ true) old new moved it.ended;
}

-- if one is missing, they are not those of the close
pub missing_one : (h : History) (s n placed : ℕ) (old now new : List TicketValue) → IsGathering h s old now placed (Some n) → IsPermutation now new → IsMissing h n placed now new → AreTicketsOf h s old → ⊥
missing_one h s n placed old now new so_far moved missing it =
    let k = missing.task in
    let here = same_tickets h s old new (IsPermutation-trans old now new so_far.same moved) it in
    let due = task_due h so_far.opened.actor s n so_far.opened so_far.is refl so_far.meets.0 so_far.meets.1 k missing.of missing.got in
    let few : count_by (is_ticket_of k) (take missing.place new) ≡ 0 = missing.before ∙ (so_far.each k ∙ ap one_if due.1) in
    let all = count_first (is_ticket_of k) new missing.place (λ i t from at. unended i t from at (is_ticket_of k t) refl) in
    let one : count_by (is_ticket_of k) new ≡ 1 = here.each k ∙ ap one_if due.0 in
    absurd (omega (arith, few, all, one))
  where
    unended : (i : ℕ) (t : TicketValue) → missing.place ≤ i → slice_get new i ≡ Some t → (b : Bool) → is_ticket_of missing.task t ≡ b → is_ticket_of missing.task t ≡ false
    unended i t from at false is = is
    unended i t from at true is =
        let ended = all_at (λ (x : TicketValue). has_ended x ≡ true) new i t (same_tickets h s old new (IsPermutation-trans old now new so_far.same moved) it).ended at in
        let none = missing.absent i t from at in
        absurd (both_ways (is_ended_ticket_of missing.task t) none (rw (is, ended) refl))

-- if all were found and none is left, they are
pub all_found : (h : History) (s placed : ℕ) (old now : List TicketValue) → IsGathering h s old now placed None → placed ≡ length now → AreTicketsOf h s old
all_found h s placed old now so_far full =
    let whole : take placed now ≡ now = ap (λ n. take n now) full ∙ take-length now in
    same_tickets h s now old (IsPermutation-sym old now so_far.same) (record {
      each = λ k. ap (count_by (is_ticket_of k)) (sym whole) ∙ (so_far.each k ∙ ap one_if (due_all h s k));
      ended = subst AllEnded whole so_far.ended;
    })

-- and if one is left, they aren't
pub one_left : (h : History) (s placed : ℕ) (old now : List TicketValue) → IsGathering h s old now placed None → placed ≢ length now → AreTicketsOf h s old → ⊥
one_left h s placed old now so_far other it =
    let within = so_far.within in
    by (first placed now (omega (arith, within, other)))
  where
    first : (n : ℕ) (xs : List TicketValue) → n < length xs → (t : TicketValue) × (slice_get xs n ≡ Some t)
    first n xs under = elim (slice_get_cases xs n).1 [ inl it ↦ (it.0, it.2) | inr past ↦ absurd (omega (arith, under, past.0)) ]

    by : (t : TicketValue) × (slice_get now placed ≡ Some t) → ⊥
    by found =
        let k = found.0.task in
        let here = same_tickets h s old now so_far.same it in
        let more = count_one_more (is_ticket_of k) now placed found.0 found.1 in
        let own : one_if (is_ticket_of k found.0) ≡ 1 = ap one_if (eq-eqb k k refl) in
        let most = count_up_to (is_ticket_of k) now (placed + 1) in
        let so = so_far.each k ∙ ap one_if (due_all h s k) in
        let all = here.each k in
        absurd (omega (arith, more, own, most, so, all))

-- What cancels a scope that was not let go: its own cancel and the first cancel are the same, at places that
-- are moved.
use Rattle.std.proofs.Common.{ℕ, ◌++◌, ◌+◌, ◌<◌, ◌∙◌, ◌≡◌, Bool, List, None, Option, Some, ap, arith, cond, false, is_some, length, length-append, max, nat_lt, option_map, refl, slice_get, take, true}
use Rattle.scope_log.specs.{BeginClose, CauseKind, Close, Deadline, Event, FirstCancel, History, Joiner, NamesNone, Opening, OwnCancel, Retirable, Words.cause, before, cancelled_at, cancelled_before, counting_deadline}
use Rattle.scope_log.specs.{direct_kind, earliest, effective, first_cancel, is_cancelled, joiner_fires, kind_by, opening, option_and_then, option_map_or, option_or, outer, overdue, own, own_at, own_cancel, retired, unretired}
use Rattle.scope_log.proofs.Words.{get_take, lt-ltb, ltb-true, same_truth}
use Rattle.scope_log.proofs.{Chained.cancel_alike, Chained.effective_alike, Chained.moved_cancel, Chained.still_some, Closing.unopened_before, Completed.same_fires, Named.begun_named, Named.first_names, Named.map_moved}
use Rattle.scope_log.proofs.{Nested.outer_new, Nested.same_covers, Nested.same_outer, Numbered.moved_opening, Numbered.part, Numbered.part_of_past, Numbered.same_opening, Numbered.size, Past.IsScope, Splitting.earliest_second}
use Rattle.scope_log.proofs.{Splitting.get_second, Standing.same_counting, Standing.same_overdue}

abbrev pub moved_own : ℕ → OwnCancel → OwnCancel
moved_own n w = record { place = n + w.place; kind = w.kind }

-- an event of a list stands in each beginning that reaches it
get_longer : (es : List Event) (i : ℕ) (e : Event) → slice_get es i ≡ Some e → slice_get (take (i + 1) es) i ≡ Some e
get_longer es i e at = get_take es (i + 1) i (omega arith) ∙ at

next_place : (n i : ℕ) → (n + i) + 1 ≡ n + (i + 1)
next_place n i = omega arith

module _ (r : Retirable) (es : List Event) where
  own_in_past : (s i : ℕ) → IsScope r s → i < size r → own_at (unretired r es) s i ≡ None
  unfolding own_at
  own_in_past s i new within =
      let none : opening (before (unretired r es) (i + 1)) s ≡ None = ap (λ (g : History). opening g s) (part_of_past r es (i + 1) (omega (arith, within))) ∙ unopened_before r (i + 1) s new in
      ap (λ o. cond (is_some o) (option_and_then (λ e. option_map (λ k. record { place = i; kind = k }) (kind_by (unretired r es) s i e)) (slice_get (r.past.events ++ es) i)) None) none

  next_part : (i : ℕ) → before (unretired r es) ((size r + i) + 1) ≡ unretired r (take (i + 1) es)
  next_part i = ap (before (unretired r es)) (next_place (size r) i) ∙ part r es (i + 1)

module _ (r : Retirable) (es : List Event) (none : NamesNone r es) where
  direct_alike : (s i : ℕ) (e : Event) → IsScope r s → slice_get es i ≡ Some e → direct_kind (unretired r (take i es)) s e ≡ direct_kind (retired r (take i es)) s e
  direct_alike s i (BeginClose a t) new at = ap (λ b. cond b (Some Close) None) (same_covers r (take i es) t s (begun_named r es none i a t at) new)
  direct_alike s i _ new at = refl

  kind_alike : (s i : ℕ) (e : Event) → IsScope r s → slice_get es i ≡ Some e → kind_by (unretired r es) s (size r + i) e ≡ kind_by (retired r es) s i e
  kind_alike s i e new at =
      let direct : direct_kind (before (unretired r es) (size r + i)) s e ≡ direct_kind (retired r (take i es)) s e = ap (λ (g : History). direct_kind g s e) (part r es i) ∙ direct_alike s i e new at in
      let joins : joiner_fires (before (unretired r es) ((size r + i) + 1)) s e ≡ joiner_fires (retired r (take (i + 1) es)) s e =
      ap (λ (g : History). joiner_fires g s e) (next_part r es i) ∙ same_fires r (take (i + 1) es) (first_names r es (i + 1) none) s i e new (get_longer es i e at) in
      let passes : overdue (before (unretired r es) ((size r + i) + 1)) s ≡ overdue (retired r (take (i + 1) es)) s = ap (λ (g : History). overdue g s) (next_part r es i) ∙ same_overdue r (take (i + 1) es) s new in
      ap (λ o. option_or o (cond (joiner_fires (before (unretired r es) ((size r + i) + 1)) s e) (Some Joiner) (cond (overdue (before (unretired r es) ((size r + i) + 1)) s) (Some Deadline) None))) direct
      ∙ (ap (λ b. option_or (direct_kind (retired r (take i es)) s e) (cond b (Some Joiner) (cond (overdue (before (unretired r es) ((size r + i) + 1)) s) (Some Deadline) None))) joins
      ∙ ap (λ b. option_or (direct_kind (retired r (take i es)) s e) (cond (joiner_fires (retired r (take (i + 1) es)) s e) (Some Joiner) (cond b (Some Deadline) None))) passes)

  placed : (n : ℕ) (k : Option CauseKind) (i : ℕ) → option_map (λ k. record { place = n + i; kind = k }) k ≡ option_map (moved_own n) (option_map (λ k. record { place = i; kind = k }) k)
  placed n None i = refl
  placed n (Some k) i = refl

  own_by : (s i : ℕ) (b : Bool) (o : Option Event) → IsScope r s → slice_get es i ≡ o
      → cond b (option_and_then (λ e. option_map (λ k. record { place = size r + i; kind = k }) (kind_by (unretired r es) s (size r + i) e)) o) None
      ≡ option_map (moved_own (size r)) (cond b (option_and_then (λ e. option_map (λ k. record { place = i; kind = k }) (kind_by (retired r es) s i e)) o) None)
  own_by s i false o new at = refl
  own_by s i true None new at = refl
  own_by s i true (Some e) new at =
      ap (option_map (λ k. record { place = size r + i; kind = k })) (kind_alike s i e new at) ∙ placed (size r) (kind_by (retired r es) s i e) i

  own_later : (s i : ℕ) → IsScope r s → own_at (unretired r es) s (size r + i) ≡ option_map (moved_own (size r)) (own_at (retired r es) s i)
  unfolding own_at
  own_later s i new =
      let opened : is_some (opening (before (unretired r es) ((size r + i) + 1)) s) ≡ is_some (opening (retired r (take (i + 1) es)) s) =
      ap (λ (g : History). is_some (opening g s)) (next_part r es i) ∙ (ap is_some (same_opening r (take (i + 1) es) s new) ∙ still_some (moved_opening (size r)) (opening (retired r (take (i + 1) es)) s)) in
      ap (λ b. cond b (option_and_then (λ e. option_map (λ k. record { place = size r + i; kind = k }) (kind_by (unretired r es) s (size r + i) e)) (slice_get (r.past.events ++ es) (size r + i))) None) opened
      ∙ (ap (λ o. cond (is_some (opening (retired r (take (i + 1) es)) s)) (option_and_then (λ e. option_map (λ k. record { place = size r + i; kind = k }) (kind_by (unretired r es) s (size r + i) e)) o) None) (get_second r.past.events es i)
      ∙ own_by s i (is_some (opening (retired r (take (i + 1) es)) s)) (slice_get es i) new refl)

  pub same_own : (s : ℕ) → IsScope r s → own (unretired r es) s ≡ option_map (moved_own (size r)) (own (retired r es) s)
  unfolding own
  same_own s new =
      ap (earliest (own_at (unretired r es) s)) (length-append r.past.events es)
      ∙ earliest_second (own_at (unretired r es) s) (own_at (retired r es) s) (moved_own (size r)) (size r) (length es) (λ i within. own_in_past r es s i new within) (λ i within. own_later s i new)

  as_cancel : (n s : ℕ) (o : Option OwnCancel) → option_map (λ (w : OwnCancel). record { place = w.place; cause = record { scope = s; kind = w.kind } }) (option_map (moved_own n) o)
      ≡ option_map (moved_cancel n) (option_map (λ (w : OwnCancel). record { place = w.place; cause = record { scope = s; kind = w.kind } }) o)
  as_cancel n s None = refl
  as_cancel n s (Some w) = refl

  same_own_cancel : (s : ℕ) → IsScope r s → own_cancel (unretired r es) s ≡ option_map (moved_cancel (size r)) (own_cancel (retired r es) s)
  same_own_cancel s new = ap (option_map (λ (w : OwnCancel). record { place = w.place; cause = record { scope = s; kind = w.kind } })) (same_own s new) ∙ as_cancel (size r) s (own (retired r es) s)

  pub same_cancel : (s : ℕ) → IsScope r s → first_cancel (unretired r es) s ≡ option_map (moved_cancel (size r)) (first_cancel (retired r es) s)
  unfolding first_cancel
  same_cancel s new =
      cancel_alike (IsScope r) (outer (unretired r es)) (outer (retired r es)) (same_outer r es none) (outer_new r es none) (size r) (own_cancel (unretired r es)) (own_cancel (retired r es)) same_own_cancel s new

  pub same_cause : (s : ℕ) → IsScope r s → cause (unretired r es) s ≡ cause (retired r es) s
  unfolding cause
  same_cause s new =
      ap (option_map (λ (c : FirstCancel). c.cause)) (same_cancel s new) ∙ map_moved (moved_cancel (size r)) (λ (c : FirstCancel). c.cause) (λ (c : FirstCancel). c.cause) (first_cancel (retired r es) s) (λ c is. refl)

  pub same_cancelled : (s : ℕ) → IsScope r s → is_cancelled (unretired r es) s ≡ is_cancelled (retired r es) s
  unfolding is_cancelled
  same_cancelled s new = ap is_some (same_cancel s new) ∙ still_some (moved_cancel (size r)) (first_cancel (retired r es) s)

  pub same_effective : (s : ℕ) → IsScope r s → effective (unretired r es) s ≡ effective (retired r es) s
  unfolding effective
  same_effective s new =
      effective_alike (IsScope r) (outer (unretired r es)) (outer (retired r es)) (same_outer r es none) (outer_new r es none) (size r) (own_cancel (unretired r es)) (own_cancel (retired r es)) same_own_cancel
      (counting_deadline (unretired r es)) (counting_deadline (retired r es)) (same_counting r es) s new

  greater_moved : (n a b : ℕ) → max (n + a) (n + b) ≡ n + max a b
  greater_moved n a b = omega arith

  at_moved : (n : ℕ) (o : Opening) (c : Option FirstCancel) → option_map (λ (x : FirstCancel). max (n + o.place) x.place) (option_map (moved_cancel n) c) ≡ option_map (λ i. n + i) (option_map (λ (x : FirstCancel). max o.place x.place) c)
  at_moved n o None = refl
  at_moved n o (Some c) = ap Some (greater_moved n o.place c.place)

  at_by : (n : ℕ) (o : Option Opening) (c : Option FirstCancel) → option_and_then (λ (o : Opening). option_map (λ (x : FirstCancel). max o.place x.place) (option_map (moved_cancel n) c)) (option_map (moved_opening n) o)
      ≡ option_map (λ i. n + i) (option_and_then (λ (o : Opening). option_map (λ (x : FirstCancel). max o.place x.place) c) o)
  at_by n None c = refl
  at_by n (Some o) c = at_moved n o c

  pub same_cancelled_at : (s : ℕ) → IsScope r s → cancelled_at (unretired r es) s ≡ option_map (λ i. size r + i) (cancelled_at (retired r es) s)
  unfolding cancelled_at
  same_cancelled_at s new =
      ap (λ c. option_and_then (λ (o : Opening). option_map (λ (x : FirstCancel). max o.place x.place) c) (opening (unretired r es) s)) (same_cancel s new)
      ∙ (ap (option_and_then (λ (o : Opening). option_map (λ (x : FirstCancel). max o.place x.place) (option_map (moved_cancel (size r)) (first_cancel (retired r es) s)))) (same_opening r es s new)
      ∙ at_by (size r) (opening (retired r es) s) (first_cancel (retired r es) s))

  lt_moved : (n a b : ℕ) → nat_lt (n + a) (n + b) ≡ nat_lt a b
  lt_moved n a b =
      same_truth (nat_lt (n + a) (n + b)) (nat_lt a b)
      (λ moved. lt-ltb a b (omega (arith, ltb-true (n + a) (n + b) moved)))
      (λ was. lt-ltb (n + a) (n + b) (omega (arith, ltb-true a b was)))

  before_by : (n i : ℕ) (o : Option ℕ) → option_map_or (λ at. nat_lt at (n + i)) (option_map (λ j. n + j) o) false ≡ option_map_or (λ at. nat_lt at i) o false
  before_by n i None = refl
  before_by n i (Some at) = lt_moved n at i

  pub same_cancelled_before : (s i : ℕ) → IsScope r s → cancelled_before (unretired r es) s (size r + i) ≡ cancelled_before (retired r es) s i
  unfolding cancelled_before
  same_cancelled_before s i new = ap (λ o. option_map_or (λ at. nat_lt at (size r + i)) o false) (same_cancelled_at s new) ∙ before_by (size r) i (cancelled_at (retired r es) s)

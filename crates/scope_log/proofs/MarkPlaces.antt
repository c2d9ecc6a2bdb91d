-- Where the mark stands in the entries of a scope, and how many entries there are.
use Rattle.std.proofs.Common.{[], ℕ, ◌++◌, ◌+◌, ◌-◌, ◌<◌, ◌==◌, ◌∙◌, ◌∷◌, ◌≡◌, ◌≢◌, ◌≤◌, List, None, Option, Some, ap, append_assoc, arith, cond, length, length-append, max, option_map, refl, subst, suc, sym, zero}
use Rattle.scope_log.specs.{Cause, FirstCancel, History, IsMarked, LogEntry, LogValue, LogsAreMarked, LogsAreShort, Opening, Words.cause, cancelled_at, cons_option, entries, entries_at, entries_from, entry_at, filter_map}
use Rattle.scope_log.specs.{first_cancel, flat_map, mark_at, mark_of, opening, option_and_then, range_with_len}
use Rattle.scope_log.proofs.Words.{cancel_within_history, eq-eqb, filter_map-append, flat_map-append, length-range_with_len, ne_eqb, opening_within, range_push}
use Rattle.scope_log.proofs.{LogSteps.flat_map_same, NewLogs.log_there}
use Rattle.scope_log.specs.declared.entries.LogEntry.TheVariants as entry

-- the first n numbers are the first m, the next, and the rest
range_parts : (a m n : ℕ) → range_with_len a (m + suc n) ≡ range_with_len a m ++ (a + m) ∷ range_with_len (a + m + 1) n
range_parts a zero n = let one : 0 + suc n ≡ suc n = omega arith in let at : a + 0 ≡ a = omega arith in rw one (rw at refl)
range_parts a (suc m) n =
    let more : suc m + suc n ≡ suc (m + suc n) = omega arith in
    let at : (a + 1) + m ≡ a + suc m = omega arith in
    rw more (ap (λ xs. a ∷ xs) (range_parts (a + 1) m n ∙ ap (λ k. range_with_len (a + 1) m ++ k ∷ range_with_len (k + 1) n) at))

single : {A : Type 0} (o : Option A) (ys : List A) → cons_option o [] ++ ys ≡ cons_option o ys
single None ys = refl
single (Some x) ys = refl

picked_singly : {A : Type 0} (f : ℕ → Option A) (ns : List ℕ) → flat_map (λ i. cons_option (f i) []) ns ≡ filter_map f ns
picked_singly f [] = refl
picked_singly f (n ∷ ns) = single (f n) (flat_map (λ i. cons_option (f i) []) ns) ∙ ap (cons_option (f n)) (picked_singly f ns)

then_mark : {A : Type 0} (o : Option A) (x : A) (ys : List A) → cons_option o (x ∷ []) ++ ys ≡ cons_option o [] ++ x ∷ ys
then_mark None x ys = refl
then_mark (Some y) x ys = refl

module _ (h : History) (s : ℕ) where
  -- places without the mark have their events' entries alone
  unmarked_from : (a n : ℕ) → ((i : ℕ) → a ≤ i → i < a + n → mark_at h s i ≡ None) → flat_map (entries_at h s) (range_with_len a n) ≡ entries_from h s a n
  unmarked_from a n none =
      flat_map_same (entries_at h s) (λ i. cons_option (entry_at h s i) []) a n (λ i above below. ap (λ o. cons_option (entry_at h s i) (cons_option o [])) (none i above below))
      ∙ picked_singly (entry_at h s) (range_with_len a n)

  no_mark_at : (at i : ℕ) → cancelled_at h s ≡ Some at → at ≢ i → mark_at h s i ≡ None
  no_mark_at at i is other = ap (option_and_then (λ n. cond (n == i) (mark_of (cause h s)) None)) is ∙ ap (λ b. cond b (mark_of (cause h s)) None) (ne_eqb at i other)

  mark_there : (at : ℕ) (c : Cause) → cancelled_at h s ≡ Some at → cause h s ≡ Some c → mark_at h s at ≡ Some (entry.Cancelled c)
  mark_there at c is why = ap (option_and_then (λ n. cond (n == at) (mark_of (cause h s)) None)) is ∙ (ap (λ b. cond b (mark_of (cause h s)) None) (eq-eqb at at refl) ∙ ap mark_of why)

  within_by : (o : Option Opening) (c : Option FirstCancel) (at : ℕ) → opening h s ≡ o → first_cancel h s ≡ c → option_and_then (λ (y : Opening). option_map (λ (x : FirstCancel). max y.place x.place) c) o ≡ Some at → at < length h.events
  within_by (Some o) (Some c) at opened why is =
      let same : max o.place c.place ≡ at = cc in
      omega (arith, same, opening_within h s o opened, cancel_within_history h s c why)
  within_by _ _ at opened why is = absurd cc

  -- a scope becomes cancelled by an event of the history
  pub cancelled_within : (at : ℕ) → cancelled_at h s ≡ Some at → at < length h.events
  unfolding cancelled_at
  cancelled_within at is = within_by (opening h s) (first_cancel h s) at refl refl is

  marked_entries : (at : ℕ) (c : Cause) → cancelled_at h s ≡ Some at → cause h s ≡ Some c → entries h s ≡ entries_from h s 0 (at + 1) ++ entry.Cancelled c ∷ entries_from h s (at + 1) (length h.events - (at + 1))
  unfolding entries
  marked_entries at c is why =
      let rest = length h.events - (at + 1) in
      let size : length h.events ≡ at + suc rest = omega (arith, cancelled_within at is) in
      let start : 0 + at ≡ at = omega arith in
      let F = entries_at h s in
      let here : F at ≡ cons_option (entry_at h s at) (entry.Cancelled c ∷ []) = ap (λ o. cons_option (entry_at h s at) (cons_option o [])) (mark_there at c is why) in
      let first = unmarked_from 0 at (λ i above below. no_mark_at at i is (λ same. omega (arith, same, below))) in
      let last = unmarked_from (at + 1) rest (λ i above below. no_mark_at at i is (λ same. omega (arith, same, above))) in
      ap (λ n. flat_map F (range_with_len 0 n)) size
      ∙ (ap (flat_map F) (range_parts 0 at rest ∙ ap (λ k. range_with_len 0 at ++ k ∷ range_with_len (k + 1) rest) start)
      ∙ (flat_map-append F (range_with_len 0 at) (at ∷ range_with_len (at + 1) rest)
      ∙ (ap (λ xs. xs ++ (F at ++ flat_map F (range_with_len (at + 1) rest))) first
      ∙ (ap (λ xs. entries_from h s 0 at ++ (F at ++ xs)) last
      ∙ (ap (λ xs. entries_from h s 0 at ++ (xs ++ entries_from h s (at + 1) rest)) here
      ∙ (ap (λ xs. entries_from h s 0 at ++ xs) (then_mark (entry_at h s at) (entry.Cancelled c) (entries_from h s (at + 1) rest))
      ∙ (sym (append_assoc (entries_from h s 0 at) (cons_option (entry_at h s at) []) (entry.Cancelled c ∷ entries_from h s (at + 1) rest))
      ∙ ap (λ xs. xs ++ entry.Cancelled c ∷ entries_from h s (at + 1) rest) (sym (ap (filter_map (entry_at h s)) (range_push 0 at ∙ ap (λ k. range_with_len 0 at ++ k ∷ []) start) ∙ filter_map-append (entry_at h s) (range_with_len 0 at) (at ∷ []))))))))))

  live_entries : cancelled_at h s ≡ None → entries h s ≡ entries_from h s 0 (length h.events)
  unfolding entries
  live_entries none = unmarked_from 0 (length h.events) (λ i above below. ap (option_and_then (λ n. cond (n == i) (mark_of (cause h s)) None)) none)

  -- the mark stands where the scope became cancelled
  pub entries_marked : IsMarked h s (entries h s)
  entries_marked = record { cancelled = marked_entries; live = live_entries }

picked_length : {A : Type 0} (f : ℕ → Option A) (ns : List ℕ) → length (filter_map f ns) ≤ length ns
picked_length f [] = omega arith
picked_length f (n ∷ ns) = by (f n) (picked_length f ns)
  where
    by : (o : Option _) → length (filter_map f ns) ≤ length ns → length (cons_option o (filter_map f ns)) ≤ suc (length ns)
    by None so = omega (arith, so)
    by (Some x) so = omega (arith, so)

pub causeless : (o : Option Opening) (c : Option FirstCancel) (at : ℕ) → option_and_then (λ (y : Opening). option_map (λ (x : FirstCancel). max y.place x.place) c) o ≡ Some at → option_map (λ (x : FirstCancel). x.cause) c ≡ None → ⊥
causeless (Some o) None at is none = absurd cc
causeless (Some o) (Some c) at is none = absurd cc
causeless None c at is none = absurd cc

from_length : (h : History) (s a n : ℕ) → length (entries_from h s a n) ≤ n
from_length h s a n = omega (arith, picked_length (entry_at h s) (range_with_len a n), length-range_with_len a n)

-- there is one entry more than events, at the most
pub entries_short : (h : History) (s : ℕ) → length (entries h s) ≤ length h.events + 1
unfolding cancelled_at cause
entries_short h s = by (cancelled_at h s) refl
  where
    by : (o : Option ℕ) → cancelled_at h s ≡ o → length (entries h s) ≤ length h.events + 1
    by None is = let size = ap length (live_entries h s is) in omega (arith, size, from_length h s 0 (length h.events))
    by (Some at) is = caused (cause h s) refl
      where
        caused : (c : Option Cause) → cause h s ≡ c → length (entries h s) ≤ length h.events + 1
        caused None why = absurd (causeless (opening h s) (first_cancel h s) at is why)
        caused (Some c) why =
            let rest = length h.events - (at + 1) in
            let size = ap length (marked_entries h s at c is why) ∙ length-append (entries_from h s 0 (at + 1)) (entry.Cancelled c ∷ entries_from h s (at + 1) rest) in
            omega (arith, size, from_length h s 0 (at + 1), from_length h s (at + 1) rest, cancelled_within h s at is)

pub marked_logs : LogsAreMarked
marked_logs L h s l legal is = subst (IsMarked h s) (sym (ap (λ (x : LogValue). x.entries) (log_there h s l is).log)) (entries_marked h s)

pub short_logs : LogsAreShort
short_logs L h s l legal is = subst (λ (es : List LogEntry). length es ≤ length h.events + 1) (sym (ap (λ (x : LogValue). x.entries) (log_there h s l is).log)) (entries_short h s)

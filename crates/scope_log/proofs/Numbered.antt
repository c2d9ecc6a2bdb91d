-- What has a number that was not let go is the same, with its place moved by the length of the past.
use Rattle.std.proofs.Common.{ℕ, ◌++◌, ◌+◌, ◌<◌, ◌==◌, ◌∙◌, ◌≡◌, ◌≤◌, Bool, List, None, Option, Some, ap, arith, cond, count_by, false, length, length-append, option_map, refl, slice_get, take, true, unwrap_or}
use Rattle.scope_log.specs.{Event, Fork, Forking, Open, Opening, Retirable, Words.moment, Words.scopes, Words.tasks, before, earliest, forked_count, forking, forking_of, is_fork, is_open, last_of, numbered_at, opened_count}
use Rattle.scope_log.specs.{opening, opening_of, option_and_then, option_or, retired, tick_of, unretired}
use Rattle.scope_log.proofs.Words.{sum_by-append, take-append-le}
use Rattle.scope_log.proofs.{Past.IsScope, Past.IsTask, Past.unforked, Past.unopened, Splitting.earliest_split, Splitting.get_first, Splitting.get_second, Splitting.last_of_append, Splitting.take_second}

-- the length of the past
abbrev pub size : Retirable → ℕ
size r = length r.past.events

pub opened_so_far : (r : Retirable) (es : List Event) → opened_count (unretired r es) ≡ opened_count r.past + opened_count (retired r es)
opened_so_far r es = sum_by-append (λ e. cond (is_open e) 1 0) r.past.events es

pub forked_so_far : (r : Retirable) (es : List Event) → forked_count (unretired r es) ≡ forked_count r.past + forked_count (retired r es)
forked_so_far r es = sum_by-append (λ e. cond (is_fork e) 1 0) r.past.events es

pub same_scopes : (r : Retirable) (es : List Event) → scopes (unretired r es) ≡ scopes (retired r es)
same_scopes r es = omega (arith, opened_so_far r es)

pub same_tasks : (r : Retirable) (es : List Event) → tasks (unretired r es) ≡ tasks (retired r es)
same_tasks r es = omega (arith, forked_so_far r es)

-- a part of the history that reaches beyond the past
pub part : (r : Retirable) (es : List Event) (i : ℕ) → before (unretired r es) (size r + i) ≡ unretired r (take i es)
part r es i = ap (λ xs. record { base = r.past.base; events = xs }) (take_second r.past.events es i)

-- a part that doesn't is one of the past
pub part_of_past : (r : Retirable) (es : List Event) (i : ℕ) → i ≤ size r → before (unretired r es) i ≡ before r.past i
part_of_past r es i within = ap (λ xs. record { base = r.past.base; events = xs }) (take-append-le i r.past.events es within)

abbrev pub moved_opening : ℕ → Opening → Opening
moved_opening n o = record { place = n + o.place; actor = o.actor; policy = o.policy; options = o.options }

abbrev pub moved_forking : ℕ → Forking → Forking
moved_forking n f = record { place = n + f.place; actor = f.actor; scope = f.scope; label = f.label }

moved_shown : {A B : Type 0} (moved : B → A) (b : Bool) (e : Option Event) (f : Event → Option A) (g : Event → Option B) → ((x : Event) → f x ≡ option_map moved (g x)) → cond b (option_and_then f e) None ≡ option_map moved (cond b (option_and_then g e) None)
moved_shown moved true None f g same = refl
moved_shown moved true (Some x) f g same = same x
moved_shown moved false e f g same = refl

sum_moved : (start m n : ℕ) → start + (m + n) + 1 ≡ (start + m) + n + 1
sum_moved start m n = omega arith

module _ {R : Type 0} (kind : Event → Bool) (shown : ℕ → Event → Option R) (moved : R → R) (start n : ℕ) (old es : List Event) (same : (i : ℕ) (e : Event) → shown (length old + i) e ≡ option_map moved (shown i e)) where
  numbered_first : (i : ℕ) → i < length old → numbered_at kind shown start (old ++ es) n i ≡ numbered_at kind shown start old n i
  numbered_first i within = rw (take-append-le i old es (omega arith)) (rw (get_first old es i within) refl)

  numbered_second : (i : ℕ) → numbered_at kind shown start (old ++ es) n (length old + i) ≡ option_map moved (numbered_at kind shown (start + count_by kind old) es n i)
  numbered_second i =
      let counted : count_by kind (take (length old + i) (old ++ es)) ≡ count_by kind old + count_by kind (take i es) = ap (count_by kind) (take_second old es i) ∙ sum_by-append (λ e. cond (kind e) 1 0) old (take i es) in
      let number : start + count_by kind (take (length old + i) (old ++ es)) + 1 ≡ (start + count_by kind old) + count_by kind (take i es) + 1 = ap (λ c. start + c + 1) counted ∙ sum_moved start (count_by kind old) (count_by kind (take i es)) in
      ap (λ c. cond (c == n) (option_and_then (shown (length old + i)) (slice_get (old ++ es) (length old + i))) None) number
      ∙ (ap (λ o. cond ((start + count_by kind old) + count_by kind (take i es) + 1 == n) (option_and_then (shown (length old + i)) o) None) (get_second old es i)
      ∙ moved_shown moved ((start + count_by kind old) + count_by kind (take i es) + 1 == n) (slice_get es i) (shown (length old + i)) (shown i) (same i))

  -- what has a number has it in the first part, or is in the second what has it there
  numbered_both : earliest (numbered_at kind shown start (old ++ es) n) (length (old ++ es)) ≡ option_or (earliest (numbered_at kind shown start old n) (length old)) (option_map moved (earliest (numbered_at kind shown (start + count_by kind old) es n) (length es)))
  numbered_both =
      ap (earliest (numbered_at kind shown start (old ++ es) n)) (length-append old es)
      ∙ earliest_split (numbered_at kind shown start (old ++ es) n) (numbered_at kind shown start old n) (numbered_at kind shown (start + count_by kind old) es n) moved (length old) (length es) (λ i within. numbered_first i within) (λ i within. numbered_second i)

opening_moves : (m i : ℕ) (e : Event) → opening_of (m + i) e ≡ option_map (moved_opening m) (opening_of i e)
opening_moves m i (Open actor policy options) = refl
opening_moves m i _ = refl

forking_moves : (m i : ℕ) (e : Event) → forking_of (m + i) e ≡ option_map (moved_forking m) (forking_of i e)
forking_moves m i (Fork actor scope label) = refl
forking_moves m i _ = refl

-- a scope was opened in the past, or later
pub opening_both : (r : Retirable) (es : List Event) (s : ℕ) → opening (unretired r es) s ≡ option_or (opening r.past s) (option_map (moved_opening (size r)) (opening (retired r es) s))
unfolding opening
opening_both r es s = numbered_both is_open opening_of (moved_opening (size r)) r.past.base.scopes s r.past.events es (opening_moves (size r))

pub forking_both : (r : Retirable) (es : List Event) (k : ℕ) → forking (unretired r es) k ≡ option_or (forking r.past k) (option_map (moved_forking (size r)) (forking (retired r es) k))
unfolding forking
forking_both r es k = numbered_both is_fork forking_of (moved_forking (size r)) r.past.base.tasks k r.past.events es (forking_moves (size r))

-- a scope that was not let go has the same opening, at a place that is moved
pub same_opening : (r : Retirable) (es : List Event) (s : ℕ) → IsScope r s → opening (unretired r es) s ≡ option_map (moved_opening (size r)) (opening (retired r es) s)
same_opening r es s new = opening_both r es s ∙ ap (λ o. option_or o (option_map (moved_opening (size r)) (opening (retired r es) s))) (unopened r s new)

pub same_forking : (r : Retirable) (es : List Event) (k : ℕ) → IsTask r k → forking (unretired r es) k ≡ option_map (moved_forking (size r)) (forking (retired r es) k)
same_forking r es k new = forking_both r es k ∙ ap (λ o. option_or o (option_map (moved_forking (size r)) (forking (retired r es) k))) (unforked r k new)

-- the moment is the same
moment_by : (new old : Option ℕ) (m : ℕ) → unwrap_or (option_or new old) m ≡ unwrap_or new (unwrap_or old m)
moment_by None old m = refl
moment_by (Some x) old m = refl

pub same_moment : (r : Retirable) (es : List Event) → moment (unretired r es) ≡ moment (retired r es)
unfolding moment
same_moment r es = ap (λ o. unwrap_or o r.past.base.moment) (last_of_append tick_of r.past.events es) ∙ moment_by (last_of tick_of es) (last_of tick_of r.past.events) r.past.base.moment

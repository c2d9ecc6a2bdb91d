-- What a join answers of a scope that was not let go.
use Rattle.std.proofs.Common.{ℕ, ◌&&◌, ◌+◌, ◌∙◌, ◌≡◌, ◌≤◌, Bool, List, None, Option, Some, ap, arith, cond, false, length, length-append, map, option_map, refl, slice_get, take, true}
use Rattle.scope_log.specs.{Completion, Event, Finish, History, NamesNone, Opening, Retirable, Words.cause, Words.joined, Words.outcome, Words.state, Words.tasks, answer_of, before, earliest, entry_in, filter_map, first_read}
use Rattle.scope_log.specs.{forked_count, has_failed, has_succeeded, is_available, is_task_of, joining, joining_at, joins, listing_by, opening, option_and_then, outcome_of, readable, readable_at, readable_of, retired, tasks_of}
use Rattle.scope_log.specs.{unretired, value_in, values_by}
use Rattle.scope_log.proofs.{Cancelled.same_cause, Completed.past_completes, Completed.same_completion, Named.finished_named, Named.first_names, Named.map_moved, Named.then_moved, Numbered.moved_opening, Numbered.part}
use Rattle.scope_log.proofs.{Numbered.same_opening, Numbered.size, Past.IsScope, Past.IsTask, Past.greater, Past.unjoined, Ranges.filter_listed, Ranges.filter_mapped, Splitting.earliest_second, Splitting.earliest_second_same}
use Rattle.scope_log.proofs.{Splitting.get_first, Splitting.get_second, Splitting.none_where, Staged.same_state, Staged.same_tasks_of}

module _ (r : Retirable) (es : List Event) (none : NamesNone r es) where
  unread : (test : Completion → Bool) (s i : ℕ) (o : Option Event) → IsScope r s → slice_get r.past.events i ≡ o → option_and_then (readable test (unretired r es) s) o ≡ None
  unread test s i None new at = refl
  unread test s i (Some e) new at = ap (option_and_then (λ (d : Completion). cond (test d && is_available (state (unretired r es) d.task)) (Some d) None)) (past_completes r es s i e new at)

  done_by : (test : Completion → Bool) (k : ℕ) (b : Bool) (end : _) → IsTask r k
      → option_and_then (λ (d : Completion). cond (test d && is_available (state (unretired r es) d.task)) (Some d) None) (cond b (Some (record { task = k; end = end })) None)
      ≡ option_and_then (λ (d : Completion). cond (test d && is_available (state (retired r es) d.task)) (Some d) None) (cond b (Some (record { task = k; end = end })) None)
  done_by test k true end new = ap (λ x. cond (test (record { task = k; end = end }) && is_available x) (Some (record { task = k; end = end })) None) (same_state r es none k new)
  done_by test k false end new = refl

  read_alike : (test : Completion → Bool) (s i : ℕ) (e : Event) → slice_get es i ≡ Some e → readable test (unretired r es) s e ≡ readable test (retired r es) s e
  read_alike test s i (Finish k end) at =
      ap (option_and_then (λ (d : Completion). cond (test d && is_available (state (unretired r es) d.task)) (Some d) None)) (same_completion r es none s i (Finish k end) at)
      ∙ done_by test k (is_task_of (retired r es) s k) end (finished_named r es none i k end at)
  read_alike test s i _ at = refl

  read_by : (test : Completion → Bool) (s i : ℕ) (o : Option Event) → slice_get es i ≡ o → option_and_then (readable test (unretired r es) s) o ≡ option_and_then (readable test (retired r es) s) o
  read_by test s i None at = refl
  read_by test s i (Some e) at = read_alike test s i e at

  pub same_first_read : (test : Completion → Bool) (s : ℕ) → IsScope r s → first_read test (unretired r es) s ≡ first_read test (retired r es) s
  same_first_read test s new =
      ap (earliest (readable_at test (unretired r es) s)) (length-append r.past.events es)
      ∙ earliest_second_same (readable_at test (unretired r es) s) (readable_at test (retired r es) s) (size r) (length es)
      (λ i within. ap (option_and_then (readable test (unretired r es) s)) (get_first r.past.events es i within) ∙ unread test s i (slice_get r.past.events i) new refl)
      (λ i within. ap (option_and_then (readable test (unretired r es) s)) (get_second r.past.events es i) ∙ read_by test s i (slice_get es i) refl)

  later_state : (k : ℕ) → tasks r.past + 1 ≤ k → state (unretired r es) k ≡ state (retired r es) k
  later_state k more = same_state r es none k (greater (tasks r.past) k (omega (arith, more)))

  same_values : (s : ℕ) → IsScope r s → values_by (state (unretired r es)) (tasks_of (unretired r es) s) ≡ values_by (state (retired r es)) (tasks_of (retired r es) s)
  unfolding tasks_of
  same_values s new =
      ap (filter_map (λ k. value_in k (state (unretired r es) k))) (same_tasks_of r es none s new)
      ∙ filter_mapped (is_task_of (retired r es) s) (λ k. value_in k (state (unretired r es) k)) (λ k. value_in k (state (retired r es) k)) (tasks r.past + 1) (forked_count (retired r es)) (λ k more. ap (value_in k) (later_state k more))

  same_listing : (s : ℕ) → IsScope r s → listing_by (state (unretired r es)) (tasks_of (unretired r es) s) ≡ listing_by (state (retired r es)) (tasks_of (retired r es) s)
  unfolding tasks_of
  same_listing s new =
      ap (map (λ k. entry_in k (state (unretired r es) k))) (same_tasks_of r es none s new)
      ∙ filter_listed (is_task_of (retired r es) s) (λ k. entry_in k (state (unretired r es) k)) (λ k. entry_in k (state (retired r es) k)) (tasks r.past + 1) (forked_count (retired r es)) (λ k more. ap (entry_in k) (later_state k more))

  same_readable : (s : ℕ) → IsScope r s → readable_of (unretired r es) s ≡ readable_of (retired r es) s
  same_readable s new =
      ap (λ x. record { failure = x; success = first_read has_succeeded (unretired r es) s; values = values_by (state (unretired r es)) (tasks_of (unretired r es) s); listing = listing_by (state (unretired r es)) (tasks_of (unretired r es) s) }) (same_first_read has_failed s new)
      ∙ (ap (λ x. record { failure = first_read has_failed (retired r es) s; success = x; values = values_by (state (unretired r es)) (tasks_of (unretired r es) s); listing = listing_by (state (unretired r es)) (tasks_of (unretired r es) s) }) (same_first_read has_succeeded s new)
      ∙ (ap (λ x. record { failure = first_read has_failed (retired r es) s; success = first_read has_succeeded (retired r es) s; values = x; listing = listing_by (state (unretired r es)) (tasks_of (unretired r es) s) }) (same_values s new)
      ∙ ap (λ x. record { failure = first_read has_failed (retired r es) s; success = first_read has_succeeded (retired r es) s; values = values_by (state (retired r es)) (tasks_of (retired r es) s); listing = x }) (same_listing s new)))

  pub same_outcome_of : (s : ℕ) (o : Opening) → IsScope r s → outcome_of (unretired r es) s (moved_opening (size r) o) ≡ outcome_of (retired r es) s o
  unfolding outcome_of
  same_outcome_of s o new =
      ap (λ x. answer_of x s o.policy o.options.expiry (cause (unretired r es) s)) (same_readable s new)
      ∙ ap (answer_of (readable_of (retired r es) s) s o.policy o.options.expiry) (same_cause r es none s new)

module _ (r : Retirable) (es : List Event) where
  unjoined_by : (s i : ℕ) (o : Option Event) → IsScope r s → slice_get r.past.events i ≡ o → option_and_then (λ e. cond (joins s e) (Some i) None) o ≡ None
  unfolding joined
  unjoined_by s i None new at = refl
  unjoined_by s i (Some e) new at = ap (λ b. cond b (Some i) None) (none_where (joins s) r.past.events i e (unjoined r s new) at)

  joined_by : (n i : ℕ) (b : Bool) → cond b (Some (n + i)) None ≡ option_map (λ j. n + j) (cond b (Some i) None)
  joined_by n i true = refl
  joined_by n i false = refl

  joining_later : (n s i : ℕ) (o : Option Event) → option_and_then (λ e. cond (joins s e) (Some (n + i)) None) o ≡ option_map (λ j. n + j) (option_and_then (λ e. cond (joins s e) (Some i) None) o)
  joining_later n s i None = refl
  joining_later n s i (Some e) = joined_by n i (joins s e)

  pub same_joining : (s : ℕ) → IsScope r s → joining (unretired r es) s ≡ option_map (λ j. size r + j) (joining (retired r es) s)
  unfolding joining
  same_joining s new =
      ap (earliest (joining_at (unretired r es) s)) (length-append r.past.events es)
      ∙ earliest_second (joining_at (unretired r es) s) (joining_at (retired r es) s) (λ j. size r + j) (size r) (length es)
      (λ i within. ap (option_and_then (λ e. cond (joins s e) (Some i) None)) (get_first r.past.events es i within) ∙ unjoined_by s i (slice_get r.past.events i) new refl)
      (λ i within. ap (option_and_then (λ e. cond (joins s e) (Some (size r + i)) None)) (get_second r.past.events es i) ∙ joining_later (size r) s i (slice_get es i))

module _ (r : Retirable) (es : List Event) (none : NamesNone r es) where
  outcome_at : (s j : ℕ) → IsScope r s → option_map (outcome_of (before (unretired r es) (size r + j)) s) (opening (unretired r es) s) ≡ option_map (outcome_of (retired r (take j es)) s) (opening (retired r es) s)
  outcome_at s j new =
      ap (λ (g : History). option_map (outcome_of g s) (opening (unretired r es) s)) (part r es j)
      ∙ (ap (option_map (outcome_of (unretired r (take j es)) s)) (same_opening r es s new)
      ∙ map_moved (moved_opening (size r)) (outcome_of (unretired r (take j es)) s) (outcome_of (retired r (take j es)) s) (opening (retired r es) s) (λ o is. same_outcome_of r (take j es) (first_names r es j none) s o new))

  pub same_outcome : (s : ℕ) → IsScope r s → outcome (unretired r es) s ≡ outcome (retired r es) s
  unfolding outcome
  same_outcome s new =
      ap (option_and_then (λ i. option_map (outcome_of (before (unretired r es) i) s) (opening (unretired r es) s))) (same_joining r es s new)
      ∙ then_moved (λ j. size r + j) (λ i. option_map (outcome_of (before (unretired r es) i) s) (opening (unretired r es) s)) (λ i. option_map (outcome_of (before (retired r es) i) s) (opening (retired r es) s)) (joining (retired r es) s)
      (λ j is. outcome_at s j new)

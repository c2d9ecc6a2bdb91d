-- How far the tasks have come that were not let go, and what can be read of them.
use Rattle.std.proofs.Common.{ℕ, ◌&&◌, ◌+◌, ◌==◌, ◌∙◌, ◌≡◌, Bool, List, None, Option, Some, ap, cond, count_by, false, length, length-append, not, option_map, refl, slice_get, true}
use Rattle.scope_log.specs.{Ending, Event, Finish, Finished, Forking, NamesNone, Never, Retirable, Running, Stage, Unavailable, Waiting, Words.counts, Words.stage, Words.state, earliest, ending, ending_at, ending_of, forking}
use Rattle.scope_log.specs.{has_tasks, is_at, is_settled, is_stage, is_task_of, is_unsettled, option_and_then, option_map_or, ready, retired, settled, stage_of, state_by_end, state_of, task_numbers, tasks_of, unretired}
use Rattle.scope_log.proofs.{Cancelled.same_cancelled, Cancelled.same_cancelled_before, Completed.past_task, Completed.same_is_task, Named.home_named, Named.or_moved, Numbered.moved_forking, Numbered.same_forking, Numbered.size}
use Rattle.scope_log.proofs.{Past.IsScope, Past.IsTask, Past.unfinished_by, Ranges.any_tasks, Ranges.count_tasks, Ranges.filter_tasks, Splitting.earliest_second, Splitting.get_first, Splitting.get_second, Standing.same_finished}
use Rattle.scope_log.proofs.{Standing.same_rejected, Standing.same_started}

abbrev pub moved_ending : ℕ → Ending → Ending
moved_ending n x = record { place = n + x.place; end = x.end }

module _ (r : Retirable) (es : List Event) where
  ending_none : (k i : ℕ) (e : Event) → IsTask r k → slice_get r.past.events i ≡ Some e → ending_of k i e ≡ None
  ending_none k i (Finish task end) new at = ap (λ b. cond b (Some (record { place = i; end = end })) None) (unfinished_by r i k (Finish task end) new at)
  ending_none k i _ new at = refl

  ending_by : (k i : ℕ) (o : Option Event) → IsTask r k → slice_get r.past.events i ≡ o → option_and_then (ending_of k i) o ≡ None
  ending_by k i None new at = refl
  ending_by k i (Some e) new at = ending_none k i e new at

  ended_moved : (k i : ℕ) (b : Bool) (end : _) → cond b (Some (record { place = size r + i; end = end })) None ≡ option_map (moved_ending (size r)) (cond b (Some (record { place = i; end = end })) None)
  ended_moved k i true end = refl
  ended_moved k i false end = refl

  ending_moved : (k i : ℕ) (e : Event) → ending_of k (size r + i) e ≡ option_map (moved_ending (size r)) (ending_of k i e)
  ending_moved k i (Finish task end) = ended_moved k i (task == k) end
  ending_moved k i _ = refl

  ending_later : (k i : ℕ) (o : Option Event) → option_and_then (ending_of k (size r + i)) o ≡ option_map (moved_ending (size r)) (option_and_then (ending_of k i) o)
  ending_later k i None = refl
  ending_later k i (Some e) = ending_moved k i e

  pub same_ending : (k : ℕ) → IsTask r k → ending (unretired r es) k ≡ option_map (moved_ending (size r)) (ending (retired r es) k)
  unfolding ending
  same_ending k new =
      ap (earliest (ending_at (unretired r es) k)) (length-append r.past.events es)
      ∙ earliest_second (ending_at (unretired r es) k) (ending_at (retired r es) k) (moved_ending (size r)) (size r) (length es)
      (λ i within. ap (option_and_then (ending_of k i)) (get_first r.past.events es i within) ∙ ending_by k i (slice_get r.past.events i) new refl)
      (λ i within. ap (option_and_then (ending_of k (size r + i))) (get_second r.past.events es i) ∙ ending_later k i (slice_get es i))

module _ (r : Retirable) (es : List Event) (none : NamesNone r es) where
  stage_alike : (k : ℕ) (f : Forking) → IsTask r k → forking (retired r es) k ≡ Some f → stage_of (unretired r es) k (moved_forking (size r) f) ≡ stage_of (retired r es) k f
  unfolding stage_of
  stage_alike k f new is =
      rw (same_cancelled_before r es none f.scope f.place (home_named r es none k f is)) (rw (same_rejected r es k new) (rw (same_finished r es k new) (rw (same_started r es k new) refl)))

  pub same_stage : (k : ℕ) → IsTask r k → stage (unretired r es) k ≡ stage (retired r es) k
  unfolding stage
  same_stage k new =
      ap (λ o. option_map_or (stage_of (unretired r es) k) o Never) (same_forking r es k new)
      ∙ or_moved (moved_forking (size r)) (stage_of (unretired r es) k) (stage_of (retired r es) k) Never (forking (retired r es) k) (λ f is. stage_alike k f new is)

  state_alike : (k : ℕ) (f : Forking) → IsTask r k → forking (retired r es) k ≡ Some f → option_map_or (state_of (unretired r es) (moved_forking (size r) f)) (ending (unretired r es) k) Unavailable ≡ option_map_or (state_of (retired r es) f) (ending (retired r es) k) Unavailable
  state_alike k f new is =
      ap (λ o. option_map_or (state_of (unretired r es) (moved_forking (size r) f)) o Unavailable) (same_ending r es k new)
      ∙ or_moved (moved_ending (size r)) (state_of (unretired r es) (moved_forking (size r) f)) (state_of (retired r es) f) Unavailable (ending (retired r es) k)
      (λ x at. ap (λ b. cond b Unavailable (state_by_end x.end)) (same_cancelled_before r es none f.scope x.place (home_named r es none k f is)))

  pub same_state : (k : ℕ) → IsTask r k → state (unretired r es) k ≡ state (retired r es) k
  unfolding state
  same_state k new =
      ap (λ o. option_map_or (λ f. option_map_or (state_of (unretired r es) f) (ending (unretired r es) k) Unavailable) o Unavailable) (same_forking r es k new)
      ∙ or_moved (moved_forking (size r)) (λ f. option_map_or (state_of (unretired r es) f) (ending (unretired r es) k) Unavailable) (λ f. option_map_or (state_of (retired r es) f) (ending (retired r es) k) Unavailable) Unavailable (forking (retired r es) k)
      (λ f is. state_alike k f new is)

  pub same_has_tasks : (s : ℕ) → IsScope r s → has_tasks (unretired r es) s ≡ has_tasks (retired r es) s
  unfolding has_tasks
  same_has_tasks s new = any_tasks r es (is_task_of (unretired r es) s) (is_task_of (retired r es) s) (λ k within. past_task r es s k new within) (λ k later. same_is_task r es s k later)

  pub same_tasks_of : (s : ℕ) → IsScope r s → tasks_of (unretired r es) s ≡ tasks_of (retired r es) s
  unfolding tasks_of
  same_tasks_of s new = filter_tasks r es (is_task_of (unretired r es) s) (is_task_of (retired r es) s) (λ k within. past_task r es s k new within) (λ k later. same_is_task r es s k later)

  tally : (s : ℕ) (x : Stage) → IsScope r s → count_by (is_at (unretired r es) s x) (task_numbers (unretired r es)) ≡ count_by (is_at (retired r es) s x) (task_numbers (retired r es))
  tally s x new =
      count_tasks r es (is_at (unretired r es) s x) (is_at (retired r es) s x)
      (λ k within. ap (λ b. b && is_stage x (stage (unretired r es) k)) (past_task r es s k new within))
      (λ k later. ap (λ b. b && is_stage x (stage (unretired r es) k)) (same_is_task r es s k later) ∙ ap (λ y. is_task_of (retired r es) s k && is_stage x y) (same_stage k later))

  pub same_counts : (s : ℕ) → IsScope r s → counts (unretired r es) s ≡ counts (retired r es) s
  unfolding counts
  same_counts s new = rw (tally s Never new) (rw (tally s Waiting new) (rw (tally s Running new) (rw (tally s Finished new) refl)))

  pub same_settled : (s : ℕ) → IsScope r s → settled (unretired r es) s ≡ settled (retired r es) s
  unfolding settled
  same_settled s new =
      ap not (any_tasks r es (is_unsettled (unretired r es) s) (is_unsettled (retired r es) s)
      (λ k within. ap (λ b. b && not (is_settled (stage (unretired r es) k))) (past_task r es s k new within))
      (λ k later. ap (λ b. b && not (is_settled (stage (unretired r es) k))) (same_is_task r es s k later) ∙ ap (λ y. is_task_of (retired r es) s k && not (is_settled y)) (same_stage k later)))

  pub same_ready : (s : ℕ) → IsScope r s → ready (unretired r es) s ≡ ready (retired r es) s
  unfolding ready
  same_ready s new = rw (same_cancelled r es none s new) (rw (same_settled s new) refl)

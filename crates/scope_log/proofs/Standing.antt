-- What stands of a number that was not let go: joins, ends of closes, deadlines, rejects, starts, ends
-- of tasks, and own pairs.
use Rattle.std.proofs.Common.{[], ℕ, ◌++◌, ◌||◌, ◌∙◌, ◌≡◌, List, None, Option, Some, ap, arith, cond, fold, refl, suc, sym, true, zero}
use Rattle.scope_log.specs.{Event, History, Opening, Retirable, Words.closed, Words.joined, counting_deadline, deadline, ends, finished, finishes, first_stack, joins, last_of, list_any, move_of, opening, option_and_then}
use Rattle.scope_log.specs.{option_map_or, option_or, overdue, rejected, rejects, retired, stack, stacked, started, starts, unretired}
use Rattle.scope_log.proofs.Words.{list_any-append, ne_eqb}
use Rattle.scope_log.proofs.{Named.then_moved, Numbered.moved_opening, Numbered.same_moment, Numbered.same_opening, Numbered.size, Past.IsScope, Past.IsTask, Past.no_pairs, Past.unclosed, Past.unfinished, Past.unjoined}
use Rattle.scope_log.proofs.{Past.unmoved, Past.unrejected, Past.unstarted, Splitting.any_second, Splitting.fold_append, Splitting.last_of_append}

module _ (r : Retirable) (es : List Event) where
  pub same_joined : (s : ℕ) → IsScope r s → joined (unretired r es) s ≡ joined (retired r es) s
  unfolding joined
  same_joined s new = any_second (joins s) r.past.events es (unjoined r s new)

  pub same_closed : (s : ℕ) → IsScope r s → closed (unretired r es) s ≡ closed (retired r es) s
  unfolding closed
  same_closed s new = any_second (ends s) r.past.events es (unclosed r s new)

  -- what was closed is closed
  pub closed_still : (s : ℕ) → closed r.past s ≡ true → closed (unretired r es) s ≡ true
  unfolding closed
  closed_still s so = list_any-append (ends s) r.past.events es ∙ ap (λ b. b || list_any (ends s) es) so

  pub same_rejected : (k : ℕ) → IsTask r k → rejected (unretired r es) k ≡ rejected (retired r es) k
  unfolding rejected
  same_rejected k new = any_second (rejects k) r.past.events es (unrejected r k new)

  pub same_started : (k : ℕ) → IsTask r k → started (unretired r es) k ≡ started (retired r es) k
  unfolding started
  same_started k new = any_second (starts k) r.past.events es (unstarted r k new)

  pub same_finished : (k : ℕ) → IsTask r k → finished (unretired r es) k ≡ finished (retired r es) k
  unfolding finished
  same_finished k new = any_second (finishes k) r.past.events es (unfinished r k new)

  or_none : {A : Type 0} (o p : Option A) → p ≡ None → option_or o p ≡ o
  or_none None p none = none
  or_none (Some x) p none = refl

  pub same_deadline : (s : ℕ) → IsScope r s → deadline (unretired r es) s ≡ deadline (retired r es) s
  unfolding deadline
  same_deadline s new =
      let opened : option_and_then (λ (o : Opening). o.options.deadline) (opening (unretired r es) s) ≡ option_and_then (λ (o : Opening). o.options.deadline) (opening (retired r es) s) =
      ap (option_and_then (λ (o : Opening). o.options.deadline)) (same_opening r es s new)
      ∙ then_moved (moved_opening (size r)) (λ (o : Opening). o.options.deadline) (λ (o : Opening). o.options.deadline) (opening (retired r es) s) (λ o is. refl) in
      let moved : last_of (move_of s) (r.past.events ++ es) ≡ last_of (move_of s) es = last_of_append (move_of s) r.past.events es ∙ or_none (last_of (move_of s) es) (last_of (move_of s) r.past.events) (unmoved r s new) in
      ap (λ o. option_map_or (λ d. d) o (option_and_then (λ (o : Opening). o.options.deadline) (opening (unretired r es) s))) moved
      ∙ ap (λ d. option_map_or (λ d. d) (last_of (move_of s) es) d) opened

  pub same_overdue : (s : ℕ) → IsScope r s → overdue (unretired r es) s ≡ overdue (retired r es) s
  unfolding overdue
  same_overdue s new = rw (same_joined s new) (rw (same_deadline s new) (rw (same_moment r es) refl))

  pub same_counting : (s : ℕ) → IsScope r s → counting_deadline (unretired r es) s ≡ counting_deadline (retired r es) s
  unfolding counting_deadline
  same_counting s new = rw (same_joined s new) (rw (same_deadline s new) refl)

  task_begins : (h : History) (a : ℕ) → first_stack h (suc a) ≡ []
  task_begins h a = ap (λ b. cond b h.base.binds []) (ne_eqb (suc a) 0 (λ none. omega (arith, none)))

  -- main's pairs go on from those that were left, and those of a task from none
  pub same_stack : (a : ℕ) → IsTask r a → stack (unretired r es) a ≡ stack (retired r es) a
  unfolding stack
  same_stack zero new = fold_append (stacked 0) r.past.base.binds r.past.events es
  same_stack (suc a) new =
      fold_append (stacked (suc a)) (first_stack r.past (suc a)) r.past.events es
      ∙ (ap (λ bs. fold (stacked (suc a)) bs es) (no_pairs r (suc a) (λ none. omega (arith, none)) new)
      ∙ sym (ap (λ bs. fold (stacked (suc a)) bs es) (task_begins (retired r es) a)))

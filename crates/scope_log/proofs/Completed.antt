-- Which tasks are those of a scope that was not let go, and which of them completed.
use Rattle.std.proofs.Common.{ℕ, ◌==◌, ◌∙◌, ◌≡◌, ◌≤◌, List, None, Option, Some, ap, arith, cond, false, option_map, refl, slice_get, sym}
use Rattle.scope_log.specs.{Event, Finish, Forking, NamesNone, Opening, Retirable, Words.tasks, before, completes, completion_of, completions, fires, forking, is_task_of, joiner_fires, opening, option_map_or, option_or, retired}
use Rattle.scope_log.specs.{unretired}
use Rattle.scope_log.proofs.Words.{finish_passed, forked_after, forked_opened, ne_eqb, running_forked, task_given}
use Rattle.scope_log.proofs.{Named.finished_named, Named.or_moved, Numbered.forking_both, Numbered.moved_forking, Numbered.moved_opening, Numbered.same_forking, Numbered.same_opening, Numbered.size, Past.IsScope, Past.IsTask}
use Rattle.scope_log.proofs.{Past.accepted, Past.forked_there, Past.unopened, Splitting.filter_map_second}

module _ (r : Retirable) (es : List Event) where
  pub same_is_task : (s k : ℕ) → IsTask r k → is_task_of (unretired r es) s k ≡ is_task_of (retired r es) s k
  unfolding is_task_of
  same_is_task s k new =
      ap (λ o. option_map_or (λ (f : Forking). f.scope == s) o false) (same_forking r es k new)
      ∙ or_moved (moved_forking (size r)) (λ (f : Forking). f.scope == s) (λ (f : Forking). f.scope == s) false (forking (retired r es) k) (λ f is. refl)

  home_apart : (s k : ℕ) (f : Forking) → IsScope r s → forking r.past k ≡ Some f → f.scope ≡ s → ⊥
  home_apart s k f new is same =
      let home = forked_opened r.limits r.past k f r.legal is in
      let there : opening r.past s ≡ Some home.opened = ap (opening r.past) (sym same) ∙ home.is in
      absurd (cc (unopened r s new, there))

  task_by : (s k : ℕ) (old new : Option Forking) → IsScope r s → k ≤ tasks r.past → forking r.past k ≡ old → forking (retired r es) k ≡ new
      → option_map_or (λ (f : Forking). f.scope == s) (option_or old (option_map (moved_forking (size r)) new)) false ≡ false
  task_by s k (Some f) new scope within is now = ne_eqb f.scope s (home_apart s k f scope is)
  task_by s k None None scope within is now = refl
  task_by s k None (Some f) scope within is now = let it = forked_after (retired r es) k f now in absurd (omega (arith, within, it.2))

  -- a task of the past is none of a scope that came later
  pub past_task : (s k : ℕ) → IsScope r s → k ≤ tasks r.past → is_task_of (unretired r es) s k ≡ false
  unfolding is_task_of
  past_task s k new within =
      ap (λ o. option_map_or (λ (f : Forking). f.scope == s) o false) (forking_both r es k)
      ∙ task_by s k (forking r.past k) (forking (retired r es) k) new within refl refl

  pub past_completes : (s i : ℕ) (e : Event) → IsScope r s → slice_get r.past.events i ≡ Some e → completion_of (unretired r es) s e ≡ None
  past_completes s i (Finish k end) new at =
      let it = forked_there r i k (running_forked (before r.past i) k (finish_passed r.limits (before r.past i) k end (accepted r i (Finish k end) at)).runs) in
      ap (λ b. cond b (Some (record { task = k; end = end })) None) (past_task s k new (task_given r.past k it.forked it.is).1)
  past_completes s i _ new at = refl

module _ (r : Retirable) (es : List Event) (none : NamesNone r es) where
  pub same_completion : (s i : ℕ) (e : Event) → slice_get es i ≡ Some e → completion_of (unretired r es) s e ≡ completion_of (retired r es) s e
  same_completion s i (Finish k end) at = ap (λ b. cond b (Some (record { task = k; end = end })) None) (same_is_task r es s k (finished_named r es none i k end at))
  same_completion s i _ at = refl

  pub same_completions : (s : ℕ) → IsScope r s → completions (unretired r es) s ≡ completions (retired r es) s
  unfolding completions
  same_completions s new =
      filter_map_second (completion_of (unretired r es) s) (completion_of (retired r es) s) r.past.events es (λ i e at. past_completes r es s i e new at) (λ i e at. same_completion s i e at)

  fires_alike : (s : ℕ) → IsScope r s → option_map_or (λ (o : Opening). fires o.policy (completions (unretired r es) s)) (opening (unretired r es) s) false ≡ option_map_or (λ (o : Opening). fires o.policy (completions (retired r es) s)) (opening (retired r es) s) false
  fires_alike s new =
      ap (λ o. option_map_or (λ (o : Opening). fires o.policy (completions (unretired r es) s)) o false) (same_opening r es s new)
      ∙ or_moved (moved_opening (size r)) (λ (o : Opening). fires o.policy (completions (unretired r es) s)) (λ (o : Opening). fires o.policy (completions (retired r es) s)) false (opening (retired r es) s)
      (λ o is. ap (fires o.policy) (same_completions s new))

  completes_alike : (s i : ℕ) (e : Event) → slice_get es i ≡ Some e → completes (unretired r es) s e ≡ completes (retired r es) s e
  completes_alike s i (Finish k end) at = same_is_task r es s k (finished_named r es none i k end at)
  completes_alike s i _ at = refl

  pub same_fires : (s i : ℕ) (e : Event) → IsScope r s → slice_get es i ≡ Some e → joiner_fires (unretired r es) s e ≡ joiner_fires (retired r es) s e
  unfolding joiner_fires
  same_fires s i e new at = rw (completes_alike s i e at) (rw (fires_alike s new) refl)

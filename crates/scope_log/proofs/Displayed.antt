-- What there is to say of scopes and tasks that were not let go.
use Rattle.std.proofs.Common.{ℕ, ◌&&◌, ◌+◌, ◌==◌, ◌∙◌, ◌≡◌, Bool, List, None, Option, Some, ap, arith, cond, false, nat_lt, not, option_map, refl, true}
use Rattle.scope_log.specs.{Event, Forking, NamesNone, Opening, Retirable, Words.closed, Words.info, Words.inner, Words.label, Words.outermost, Words.scopes, earliest, forking, info_of, next_unclosed, opened_count, opening}
use Rattle.scope_log.specs.{option_and_then, retired, scope_stage, unclosed_after, unclosed_of, unretired}
use Rattle.scope_log.proofs.Words.{and_then_some, earliest_where, if_some}
use Rattle.scope_log.proofs.{Cancelled.same_cause, Closing.same_closing, Named.map_moved, Named.then_moved, Nested.gone, Nested.later_scope, Nested.unclosed_later, Numbered.moved_forking, Numbered.moved_opening}
use Rattle.scope_log.proofs.{Numbered.opened_so_far, Numbered.same_forking, Numbered.same_opening, Numbered.size, Past.IsScope, Past.IsTask, Past.greater, Splitting.earliest_second_same, Standing.same_closed}
use Rattle.scope_log.proofs.{Standing.same_deadline, Standing.same_joined}

module _ (r : Retirable) (es : List Event) where
  pub same_outermost : (a : ℕ) → outermost (unretired r es) a ≡ outermost (retired r es) a
  unfolding outermost
  same_outermost a =
      ap (earliest (unclosed_of (unretired r es) a)) (opened_so_far r es)
      ∙ earliest_second_same (unclosed_of (unretired r es) a) (unclosed_of (retired r es) a) (opened_count r.past) (opened_count (retired r es))
      (λ i within. gone r es a (r.past.base.scopes + 1 + i) (omega (arith, within))) (λ i within. unclosed_later r es a i)

  none_either : {A : Type 0} (b : Bool) (o : Option A) → o ≡ None → cond b o None ≡ None
  none_either true o none = none
  none_either false o none = refl

  pub same_next_unclosed : (a s : ℕ) → next_unclosed (unretired r es) a s ≡ next_unclosed (retired r es) a s
  unfolding next_unclosed
  same_next_unclosed a s =
      ap (earliest (unclosed_after (unretired r es) a s)) (opened_so_far r es)
      ∙ earliest_second_same (unclosed_after (unretired r es) a s) (unclosed_after (retired r es) a s) (opened_count r.past) (opened_count (retired r es))
      (λ i within. none_either (nat_lt s (r.past.base.scopes + 1 + i)) (unclosed_of (unretired r es) a i) (gone r es a (r.past.base.scopes + 1 + i) (omega (arith, within))))
      (λ i within. ap (λ n. cond (nat_lt s n) (unclosed_of (unretired r es) a (opened_count r.past + i)) None) (later_scope r es i)
      ∙ ap (λ o. cond (nat_lt s (scopes r.past + 1 + i)) o None) (unclosed_later r es a i))

  pub same_inner : (s : ℕ) → IsScope r s → inner (unretired r es) s ≡ inner (retired r es) s
  unfolding inner
  same_inner s new =
      ap (option_and_then (λ (o : Opening). next_unclosed (unretired r es) o.actor s)) (same_opening r es s new)
      ∙ then_moved (moved_opening (size r)) (λ (o : Opening). next_unclosed (unretired r es) o.actor s) (λ (o : Opening). next_unclosed (retired r es) o.actor s) (opening (retired r es) s) (λ o is. same_next_unclosed o.actor s)

  pub same_label : (k : ℕ) → IsTask r k → label (unretired r es) k ≡ label (retired r es) k
  unfolding label
  same_label k new =
      ap (option_map (λ (f : Forking). f.label)) (same_forking r es k new)
      ∙ map_moved (moved_forking (size r)) (λ (f : Forking). f.label) (λ (f : Forking). f.label) (forking (retired r es) k) (λ f is. refl)

module _ (r : Retirable) (es : List Event) (none : NamesNone r es) where
  pub same_scope_stage : (s : ℕ) → IsScope r s → scope_stage (unretired r es) s ≡ scope_stage (retired r es) s
  unfolding scope_stage
  same_scope_stage s new = rw (same_closed r es s new) (rw (same_closing r es none s new) refl)

  info_alike : (s : ℕ) (o : Opening) → IsScope r s → info_of (unretired r es) s (moved_opening (size r) o) ≡ info_of (retired r es) s o
  info_alike s o new = rw (same_deadline r es s new) (rw (same_joined r es s new) (rw (same_scope_stage s new) (rw (same_cause r es none s new) refl)))

  pub same_info : (s : ℕ) → IsScope r s → info (unretired r es) s ≡ info (retired r es) s
  unfolding info
  same_info s new =
      ap (option_map (info_of (unretired r es) s)) (same_opening r es s new)
      ∙ map_moved (moved_opening (size r)) (info_of (unretired r es) s) (info_of (retired r es) s) (opening (retired r es) s) (λ o is. info_alike s o new)

module _ (r : Retirable) (es : List Event) where
  -- an unclosed scope of the later history was not let go
  unclosed_new : (a i s : ℕ) → unclosed_of (retired r es) a i ≡ Some s → IsScope r s
  unclosed_new a i s found =
      let number = scopes r.past + 1 + i in
      let entry = and_then_some (λ (o : Opening). cond ((o.actor == a) && not (closed (retired r es) number)) (Some number) None) (opening (retired r es) number) s found in
      let test = if_some ((entry.0.actor == a) && not (closed (retired r es) number)) (Some number) s entry.2 in
      let same : number ≡ s = cc (test.1) in
      greater (scopes r.past) s (omega (arith, same))

  pub outermost_new : (a s : ℕ) → outermost (retired r es) a ≡ Some s → IsScope r s
  unfolding outermost
  outermost_new a s found =
      let it = earliest_where (unclosed_of (retired r es) a) s (opened_count (retired r es)) found in
      unclosed_new a it.0 s it.2

  next_new : (a t s : ℕ) → next_unclosed (retired r es) a t ≡ Some s → IsScope r s
  unfolding next_unclosed
  next_new a t s found =
      let it = earliest_where (unclosed_after (retired r es) a t) s (opened_count (retired r es)) found in
      let test = if_some (nat_lt t (scopes r.past + 1 + it.0)) (unclosed_of (retired r es) a it.0) s it.2 in
      unclosed_new a it.0 s test.1

  pub inner_new : (t s : ℕ) → inner (retired r es) t ≡ Some s → IsScope r s
  unfolding inner
  inner_new t s found =
      let entry = and_then_some (λ (o : Opening). next_unclosed (retired r es) o.actor t) (opening (retired r es) t) s found in
      next_new entry.0.actor t s entry.2

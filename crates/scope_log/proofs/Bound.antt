-- What actors that were not let go see bound.
use Rattle.std.proofs.Common.{[], ℕ, ◌&&◌, ◌++◌, ◌+◌, ◌==◌, ◌∙◌, ◌≡◌, ◌≤◌, Bool, List, None, Option, Some, ap, false, inl, inr, length, nat_le, not, refl, suc, take, true, zero}
use Rattle.scope_log.specs.{Event, Forking, History, NamesNone, Opening, Retirable, Words.bindings, Words.closed, Words.scopes, before, bindings_within, bound_as_at, bound_as_opened, forking, holds_last, opened_above, opening}
use Rattle.scope_log.specs.{option_map_or, retired, same_pairs, stack, unretired}
use Rattle.scope_log.proofs.{Named.first_names, Named.forker_named, Named.or_moved, Nested.gone_opening, Numbered.moved_forking, Numbered.moved_opening, Numbered.part, Numbered.same_forking, Numbered.same_opening, Numbered.size}
use Rattle.scope_log.proofs.{Past.IsScope, Past.IsTask, Ranges.any_scopes, Standing.same_closed, Standing.same_stack}

module _ (r : Retirable) where
  within_alike : (n : ℕ) (es : List Event) (a : ℕ) → NamesNone r es → IsTask r a → bindings_within (unretired r es) n a ≡ bindings_within (retired r es) n a
  unfolding bindings_within
  within_alike zero es a none new = same_stack r es a new
  within_alike (suc n) es a none new =
      let inherited : option_map_or (λ (f : Forking). bindings_within (before (unretired r es) f.place) n f.actor) (forking (unretired r es) a) [] ≡ option_map_or (λ (f : Forking). bindings_within (before (retired r es) f.place) n f.actor) (forking (retired r es) a) [] =
      ap (λ o. option_map_or (λ (f : Forking). bindings_within (before (unretired r es) f.place) n f.actor) o []) (same_forking r es a new)
      ∙ or_moved (moved_forking (size r)) (λ (f : Forking). bindings_within (before (unretired r es) f.place) n f.actor) (λ (f : Forking). bindings_within (before (retired r es) f.place) n f.actor) [] (forking (retired r es) a)
      (λ f is. ap (λ (g : History). bindings_within g n f.actor) (part r es f.place) ∙ within_alike n (take f.place es) f.actor (first_names r es f.place none) (forker_named r es none a f is)) in
      ap (λ bs. bs ++ stack (unretired r es) a) inherited ∙ ap (λ bs. option_map_or (λ (f : Forking). bindings_within (before (retired r es) f.place) n f.actor) (forking (retired r es) a) [] ++ bs) (same_stack r es a new)

  pub same_bindings : (es : List Event) (a : ℕ) → NamesNone r es → IsTask r a → bindings (unretired r es) a ≡ bindings (retired r es) a
  unfolding bindings
  same_bindings es a none new = within_alike a es a none new

module _ (r : Retirable) (es : List Event) where
  stack_then : (a i : ℕ) → IsTask r a → stack (before (unretired r es) (size r + i)) a ≡ stack (before (retired r es) i) a
  stack_then a i new = ap (λ (g : History). stack g a) (part r es i) ∙ same_stack r (take i es) a new

  pub same_bound_as_opened : (a s : ℕ) → IsTask r a → IsScope r s → bound_as_opened (unretired r es) a s ≡ bound_as_opened (retired r es) a s
  unfolding bound_as_opened
  same_bound_as_opened a s actor new =
      ap (λ o. option_map_or (bound_as_at (unretired r es) a) o false) (same_opening r es s new)
      ∙ or_moved (moved_opening (size r)) (bound_as_at (unretired r es) a) (bound_as_at (retired r es) a) false (opening (retired r es) s)
      (λ o is. ap (λ bs. same_pairs bs (stack (before (unretired r es) (size r + o.place)) a)) (same_stack r es a actor) ∙ ap (same_pairs (stack (retired r es) a)) (stack_then a o.place actor))

  closed_above : (a s : ℕ) (b c : Bool) → closed (unretired r es) s ≡ true → (b && not (closed (unretired r es) s) && c) ≡ false
  closed_above a s true c so = ap (λ x. not x && c) so
  closed_above a s false c so = refl

  above_by : (a s : ℕ) (o : Option Opening) → closed (unretired r es) s ≡ true
      → option_map_or (λ (o : Opening). (o.actor == a) && not (closed (unretired r es) s) && nat_le (length (stack (unretired r es) a)) (length (stack (before (unretired r es) o.place) a))) o false ≡ false
  above_by a s None so = refl
  above_by a s (Some o) so = closed_above a s (o.actor == a) (nat_le (length (stack (unretired r es) a)) (length (stack (before (unretired r es) o.place) a))) so

  above_gone : (a s : ℕ) → s ≤ scopes r.past → opened_above (unretired r es) a s ≡ false
  above_gone a s within =
      elim (gone_opening r es s within) [
        | inl none ↦ ap (λ o. option_map_or (λ (o : Opening). (o.actor == a) && not (closed (unretired r es) s) && nat_le (length (stack (unretired r es) a)) (length (stack (before (unretired r es) o.place) a))) o false) none
        | inr so ↦ above_by a s (opening (unretired r es) s) so
      ]

  above_alike : (a s : ℕ) → IsTask r a → IsScope r s → opened_above (unretired r es) a s ≡ opened_above (retired r es) a s
  above_alike a s actor new =
      ap (λ o. option_map_or (λ (o : Opening). (o.actor == a) && not (closed (unretired r es) s) && nat_le (length (stack (unretired r es) a)) (length (stack (before (unretired r es) o.place) a))) o false) (same_opening r es s new)
      ∙ or_moved (moved_opening (size r)) (λ (o : Opening). (o.actor == a) && not (closed (unretired r es) s) && nat_le (length (stack (unretired r es) a)) (length (stack (before (unretired r es) o.place) a)))
      (λ (o : Opening). (o.actor == a) && not (closed (retired r es) s) && nat_le (length (stack (retired r es) a)) (length (stack (before (retired r es) o.place) a))) false (opening (retired r es) s)
      (λ o is. rw (same_closed r es s new) (rw (same_stack r es a actor) (rw (stack_then a o.place actor) refl)))

  pub same_holds_last : (a : ℕ) → IsTask r a → holds_last (unretired r es) a ≡ holds_last (retired r es) a
  unfolding holds_last
  same_holds_last a actor = any_scopes r es (opened_above (unretired r es) a) (opened_above (retired r es) a) (λ s within. above_gone a s within) (λ s later. above_alike a s actor later)

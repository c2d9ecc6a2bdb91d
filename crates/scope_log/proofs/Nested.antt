-- Who owns what, what lies around it, and what covers it.
use Rattle.std.proofs.Common.{ℕ, ◌&&◌, ◌+◌, ◌==◌, ◌∙◌, ◌≡◌, ◌≤◌, ◌⊎◌, Bool, List, None, Option, Some, ap, arith, cond, false, inl, inr, length, not, option_map, refl, take, true}
use Rattle.scope_log.specs.{Event, Forking, History, NamesNone, Opening, Retirable, Words.closed, Words.innermost, Words.scopes, around, covers, forked_in, forking, have_one_opener, latest, level, next_level, opened_count}
use Rattle.scope_log.specs.{opening, option_and_then, option_map_or, option_or, outer, parent, retired, surrounding, unclosed_of, unretired}
use Rattle.scope_log.proofs.Words.{innermost_unclosed, scope_number}
use Rattle.scope_log.proofs.{Chained.chain_alike, Named.first_names, Named.home_named, Named.map_moved, Named.opened_new, Named.opener_named, Named.then_moved, Numbered.moved_forking, Numbered.moved_opening}
use Rattle.scope_log.proofs.{Numbered.opened_so_far, Numbered.opening_both, Numbered.part, Numbered.same_forking, Numbered.same_opening, Numbered.size, Past.IsScope, Past.IsTask, Past.all_closed, Past.greater}
use Rattle.scope_log.proofs.{Splitting.latest_second, Standing.closed_still, Standing.same_closed}

-- the number of a scope, if the actor opened it and has not closed it
abbrev pub unclosed_number : History → ℕ → ℕ → Option ℕ
unclosed_number h a s = option_and_then (λ (o : Opening). cond ((o.actor == a) && not (closed h s)) (Some s) None) (opening h s)

module _ (r : Retirable) (es : List Event) where
  -- what was opened in the past is closed, and else is not opened at all
  pub gone_opening : (s : ℕ) → s ≤ scopes r.past → (opening (unretired r es) s ≡ None) ⊎ (closed (unretired r es) s ≡ true)
  gone_opening s within = by (opening r.past s) refl (opening (retired r es) s) refl
    where
      by : (old : Option Opening) → opening r.past s ≡ old → (new : Option Opening) → opening (retired r es) s ≡ new → (opening (unretired r es) s ≡ None) ⊎ (closed (unretired r es) s ≡ true)
      by (Some o) is new now = inr (closed_still r es s (all_closed r s o is))
      by None is None now = inl (opening_both r es s ∙ (ap (λ o. option_or o (option_map (moved_opening (size r)) (opening (retired r es) s))) is ∙ ap (option_map (moved_opening (size r))) now))
      by None is (Some o) now = let it = scope_number (retired r es) s o now in absurd (omega (arith, within, it.2))

  gone_by : (a s : ℕ) (b : Bool) → closed (unretired r es) s ≡ true → cond (b && not (closed (unretired r es) s)) (Some s) None ≡ None
  gone_by a s true so = ap (λ c. cond (not c) (Some s) None) so
  gone_by a s false so = refl

  gone_opened : (a s : ℕ) (o : Option Opening) → closed (unretired r es) s ≡ true → option_and_then (λ (o : Opening). cond ((o.actor == a) && not (closed (unretired r es) s)) (Some s) None) o ≡ None
  gone_opened a s None so = refl
  gone_opened a s (Some o) so = gone_by a s (o.actor == a) so

  -- a scope of the past is nobody's unclosed one
  pub gone : (a s : ℕ) → s ≤ scopes r.past → unclosed_number (unretired r es) a s ≡ None
  gone a s within =
      elim (gone_opening s within) [
        | inl none ↦ ap (option_and_then (λ (o : Opening). cond ((o.actor == a) && not (closed (unretired r es) s)) (Some s) None)) none
        | inr so ↦ gone_opened a s (opening (unretired r es) s) so
      ]

  pub same_unclosed : (a s : ℕ) → IsScope r s → unclosed_number (unretired r es) a s ≡ unclosed_number (retired r es) a s
  same_unclosed a s new =
      ap (option_and_then (λ (o : Opening). cond ((o.actor == a) && not (closed (unretired r es) s)) (Some s) None)) (same_opening r es s new)
      ∙ then_moved (moved_opening (size r)) (λ (o : Opening). cond ((o.actor == a) && not (closed (unretired r es) s)) (Some s) None) (λ (o : Opening). cond ((o.actor == a) && not (closed (retired r es) s)) (Some s) None) (opening (retired r es) s)
      (λ o is. ap (λ c. cond ((o.actor == a) && not c) (Some s) None) (same_closed r es s new))

  pub later_scope : (i : ℕ) → r.past.base.scopes + 1 + (opened_count r.past + i) ≡ scopes r.past + 1 + i
  later_scope i = omega arith

  pub unclosed_later : (a i : ℕ) → unclosed_of (unretired r es) a (opened_count r.past + i) ≡ unclosed_of (retired r es) a i
  unclosed_later a i =
      ap (unclosed_number (unretired r es) a) (later_scope i) ∙ same_unclosed a (scopes r.past + 1 + i) (greater (scopes r.past) (scopes r.past + 1 + i) (omega arith))

  pub same_innermost : (a : ℕ) → innermost (unretired r es) a ≡ innermost (retired r es) a
  unfolding innermost
  same_innermost a =
      ap (latest (unclosed_of (unretired r es) a)) (opened_so_far r es)
      ∙ latest_second (unclosed_of (unretired r es) a) (unclosed_of (retired r es) a) (opened_count r.past) (opened_count (retired r es))
      (λ i within. gone a (r.past.base.scopes + 1 + i) (omega (arith, within))) (λ i within. unclosed_later a i)

  pub same_surrounding : (a : ℕ) → IsTask r a → surrounding (unretired r es) a ≡ surrounding (retired r es) a
  unfolding surrounding
  same_surrounding a new =
      let home : forked_in (unretired r es) a ≡ forked_in (retired r es) a =
      ap (option_map (λ (f : Forking). f.scope)) (same_forking r es a new)
      ∙ map_moved (moved_forking (size r)) (λ (f : Forking). f.scope) (λ (f : Forking). f.scope) (forking (retired r es) a) (λ f is. refl) in
      ap (λ o. option_or o (forked_in (unretired r es) a)) (same_innermost a) ∙ ap (option_or (innermost (retired r es) a)) home

module _ (r : Retirable) (es : List Event) (none : NamesNone r es) where
  home_by : (a p : ℕ) (o : Option Forking) → forking (retired r es) a ≡ o → option_map (λ (f : Forking). f.scope) o ≡ Some p → IsScope r p
  home_by a p None is found = absurd cc
  home_by a p (Some f) is found = let same : f.scope ≡ p = cc in rw same at (home_named r es none a f is)

  surrounding_by : (a p : ℕ) (o : Option ℕ) → innermost (retired r es) a ≡ o → option_or o (forked_in (retired r es) a) ≡ Some p → IsScope r p
  surrounding_by a p None is found = home_by a p (forking (retired r es) a) refl found
  surrounding_by a p (Some q) is found = let it = innermost_unclosed (retired r es) a p (is ∙ found) in opened_new r es p it.opened it.is

  -- what surrounds an actor was not let go
  pub surrounding_new : (a p : ℕ) → surrounding (retired r es) a ≡ Some p → IsScope r p
  unfolding surrounding
  surrounding_new a p found = surrounding_by a p (innermost (retired r es) a) refl found

module _ (r : Retirable) (es : List Event) (none : NamesNone r es) where
  pub same_around : (s : ℕ) (o : Opening) → opening (retired r es) s ≡ Some o → around (unretired r es) (moved_opening (size r) o) ≡ around (retired r es) o
  same_around s o is =
      ap (λ (g : History). surrounding g o.actor) (part r es o.place) ∙ same_surrounding r (take o.place es) o.actor (opener_named r es none s o is)

  pub same_parent : (s : ℕ) → IsScope r s → parent (unretired r es) s ≡ parent (retired r es) s
  unfolding parent
  same_parent s new =
      ap (option_and_then (around (unretired r es))) (same_opening r es s new)
      ∙ then_moved (moved_opening (size r)) (around (unretired r es)) (around (retired r es)) (opening (retired r es) s) (λ o is. same_around s o is)

  pub same_outer : (s : ℕ) → IsScope r s → outer (unretired r es) s ≡ outer (retired r es) s
  unfolding outer
  same_outer s new =
      ap (option_and_then (λ (o : Opening). cond o.options.shield None (around (unretired r es) o))) (same_opening r es s new)
      ∙ then_moved (moved_opening (size r)) (λ (o : Opening). cond o.options.shield None (around (unretired r es) o)) (λ (o : Opening). cond o.options.shield None (around (retired r es) o)) (opening (retired r es) s)
      (λ o is. ap (cond o.options.shield None) (same_around s o is))

  around_new : (s p : ℕ) (o : Opening) → opening (retired r es) s ≡ Some o → around (retired r es) o ≡ Some p → IsScope r p
  around_new s p o is found = surrounding_new r (take o.place es) (first_names r es o.place none) o.actor p found

  parent_by : (s p : ℕ) (o : Option Opening) → opening (retired r es) s ≡ o → option_and_then (around (retired r es)) o ≡ Some p → IsScope r p
  parent_by s p None is found = absurd cc
  parent_by s p (Some o) is found = around_new s p o is found

  pub parent_new : (s p : ℕ) → IsScope r s → parent (retired r es) s ≡ Some p → IsScope r p
  unfolding parent
  parent_new s p new found = parent_by s p (opening (retired r es) s) refl found

  unshielded : (b : Bool) (o : Option ℕ) (p : ℕ) → cond b None o ≡ Some p → o ≡ Some p
  unshielded true o p is = absurd cc
  unshielded false o p is = is

  outer_by : (s p : ℕ) (o : Option Opening) → opening (retired r es) s ≡ o → option_and_then (λ (o : Opening). cond o.options.shield None (around (retired r es) o)) o ≡ Some p → IsScope r p
  outer_by s p None is found = absurd cc
  outer_by s p (Some o) is found = around_new s p o is (unshielded o.options.shield (around (retired r es) o) p found)

  pub outer_new : (s p : ℕ) → IsScope r s → outer (retired r es) s ≡ Some p → IsScope r p
  unfolding outer
  outer_new s p new found = outer_by s p (opening (retired r es) s) refl found

  pub same_level : (s : ℕ) → IsScope r s → level (unretired r es) s ≡ level (retired r es) s
  unfolding level
  same_level s new = ap length (chain_alike (IsScope r) (parent (unretired r es)) (parent (retired r es)) same_parent parent_new s new)

  next_by : (o : Option ℕ) → ((p : ℕ) → o ≡ Some p → IsScope r p) → option_map_or (λ p. level (unretired r es) p + 1) o 1 ≡ option_map_or (λ p. level (retired r es) p + 1) o 1
  next_by None new = refl
  next_by (Some p) new = ap (λ n. n + 1) (same_level p (new p refl))

  pub same_next_level : (a : ℕ) → IsTask r a → next_level (unretired r es) a ≡ next_level (retired r es) a
  unfolding next_level
  same_next_level a new =
      ap (λ o. option_map_or (λ p. level (unretired r es) p + 1) o 1) (same_surrounding r es a new)
      ∙ next_by (surrounding (retired r es) a) (λ p found. surrounding_new r es none a p found)

module _ (r : Retirable) (es : List Event) where
  one_opener : (o p : Option Opening) → have_one_opener (option_map (moved_opening (size r)) o) (option_map (moved_opening (size r)) p) ≡ have_one_opener o p
  one_opener None p = refl
  one_opener (Some x) None = refl
  one_opener (Some x) (Some y) = refl

  pub same_covers : (t s : ℕ) → IsScope r t → IsScope r s → covers (unretired r es) t s ≡ covers (retired r es) t s
  unfolding covers
  same_covers t s first second =
      rw (same_closed r es s second) (rw (same_opening r es t first) (rw (same_opening r es s second) (rw (one_opener (opening (retired r es) t) (opening (retired r es) s)) refl)))

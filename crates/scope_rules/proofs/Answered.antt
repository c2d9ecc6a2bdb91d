-- What a join answered stays.
use Rattle.std.proofs.Common.{[], ℕ, ◌++◌, ◌+◌, ◌<◌, ◌∙◌, ◌∷◌, ◌≡◌, None, Option, Some, ap, arith, cond, length, length-append, option_map, refl, slice_get, sym, true}
use Rattle.scope_rules.specs.{Event, History.History, Outcome, before, followed, joining, joining_at, joins, opening, outcome, outcome_of}
use Rattle.scope_rules.proofs.{Growing.opening_stays, Openings.and_then_some, Openings.if_some, Prefixes.get_push, Pushing.before_push, Searching.earliest_kept, Searching.earliest_same, Searching.earliest_where}

-- a join stands at the place of the join
pub joining_entry : (h : History) (s i : ℕ) → joining h s ≡ Some i → (e : Event) × (slice_get h.events i ≡ Some e) × (joins s e ≡ true) × (i < length h.events)
unfolding joining
joining_entry h s i is =
    let there = earliest_where (joining_at h s) i (length h.events) is in
    let entry = and_then_some (λ (e : Event). cond (joins s e) (Some there.0) None) (slice_get h.events there.0) i there.2 in
    let test = if_some (joins s entry.0) (Some there.0) i entry.2 in
    let same : there.0 ≡ i = cc (test.1) in
    (entry.0, ap (slice_get h.events) (sym same) ∙ entry.1, test.0, omega (arith, there.1, same))

-- the place of a join is in the history
pub joining_inside : (h : History) (s i : ℕ) → joining h s ≡ Some i → i < length h.events
joining_inside h s i is = (joining_entry h s i is).3

-- the place of a join stays
pub joining_stays : (h : History) (e : Event) (s i : ℕ) → joining h s ≡ Some i → joining (followed h e) s ≡ Some i
unfolding joining
joining_stays h e s i is =
    let longer : 1 + length h.events ≡ length (h.events ++ e ∷ []) = omega (arith, length-append h.events (e ∷ [])) in
    let same = earliest_same (joining_at (followed h e) s) (joining_at h s) (length h.events) (λ j within. rw (get_push h.events e j within) refl) in
    rw longer at (earliest_kept (joining_at (followed h e) s) i (length h.events) 1 (same ∙ is))

mapped : {A B : Type 0} (f : A → B) (o : Option A) (y : B) → option_map f o ≡ Some y → (x : A) × (o ≡ Some x) × (f x ≡ y)
mapped f None y is = absurd cc
mapped f (Some x) y is = (x, refl, cc)

-- an outcome never changes once it stands
pub outcome_stays : (h : History) (e : Event) (s : ℕ) (o : Outcome) → outcome h s ≡ Some o → outcome (followed h e) s ≡ Some o
unfolding outcome
outcome_stays h e s o is =
    let there = and_then_some (λ (i : ℕ). option_map (outcome_of (before h i) s) (opening h s)) (joining h s) o is in
    let it = mapped (outcome_of (before h there.0) s) (opening h s) o there.2 in
    let inside : there.0 < length h.events = joining_inside h s there.0 there.1 in
    rw (joining_stays h e s there.0 there.1)
    (rw (opening_stays h e s it.0 it.1)
    (ap (λ (g : History). Some (outcome_of g s it.0)) (before_push h e there.0 (omega (arith, inside))) ∙ ap Some it.2))

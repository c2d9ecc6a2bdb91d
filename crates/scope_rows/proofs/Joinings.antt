-- The place of a scope's join: what one event more makes of it, and that it says whether the scope is joined.
use Rattle.std.proofs.Common.{[], ℕ, ◌++◌, ◌||◌, ◌∙◌, ◌∷◌, ◌≡◌, ◌≤◌, Bool, None, Option, Some, add-one, ap, arith, cond, false, is_some, length, length-append, refl, subst, suc, sym, true, zero}
use Rattle.scope_rows.specs.{Event, History, Words.joined, before, earliest, followed, joining, joining_at, joins, option_and_then, option_or}
use Rattle.scope_rows.proofs.Words.{before_all, earliest_same, entry_at, get_push, joined_grows, last_event, take_at}

-- the place of a join stays, or is that of the event
pub joining_grows : (h : History) (e : Event) (s : ℕ) → joining (followed h e) s ≡ option_or (joining h s) (cond (joins s e) (Some (length h.events)) None)
unfolding joining earliest
joining_grows h e s =
    let longer : length (h.events ++ e ∷ []) ≡ suc (length h.events) = length-append h.events (e ∷ []) ∙ omega arith in
    rw longer
    (rw (earliest_same (joining_at (followed h e) s) (joining_at h s) (length h.events) (λ i within. ap (option_and_then (λ (x : Event). cond (joins s x) (Some i) None)) (get_push h.events e i within)))
    (ap (λ o. option_or (joining h s) (option_and_then (λ (x : Event). cond (joins s x) (Some (length h.events)) None) o)) (last_event h.events e)))

-- there is one of two if there is the one or the other
some_or : (o : Option ℕ) (b : Bool) (n : ℕ) → is_some (option_or o (cond b (Some n) None)) ≡ (is_some o || b)
some_or None true n = refl
some_or None false n = refl
some_or (Some m) b n = refl

-- what holds of the start and after each event holds of a history
joined_before : (h : History) (s n : ℕ) → n ≤ length h.events → joined (before h n) s ≡ is_some (joining (before h n) s)
unfolding joined joining earliest
joined_before h s zero within = refl
joined_before h s (suc n) within =
    let here = entry_at h.events n (omega arith) in
    let next : before h (suc n) ≡ followed (before h n) here.0 = ap (λ i. before h i) (sym (add-one n)) ∙ ap (λ es. record { base = h.base; events = es }) (take_at h.events n here.0 here.1) in
    let was = joined_before h s n (omega arith) in
    subst (λ (g : History). joined g s ≡ is_some (joining g s)) (sym next)
    (joined_grows (before h n) here.0 s ∙ (ap (λ b. b || joins s here.0) was
    ∙ (sym (some_or (joining (before h n) s) (joins s here.0) (length (before h n).events)) ∙ ap is_some (sym (joining_grows (before h n) here.0 s)))))

-- a scope is joined if there is a place of its join
pub joined_is_some : (h : History) (s : ℕ) → joined h s ≡ is_some (joining h s)
joined_is_some h s = subst (λ (g : History). joined g s ≡ is_some (joining g s)) (before_all h (length h.events) (omega arith)) (joined_before h s (length h.events) (omega arith))

none_where : (o : Option ℕ) (b : Bool) → b ≡ is_some o → b ≡ false → o ≡ None
none_where None b is none = refl
none_where (Some n) b is none = absurd cc

-- a scope that isn't joined has no place of a join
pub unjoined : (h : History) (s : ℕ) → joined h s ≡ false → joining h s ≡ None
unjoined h s none = none_where (joining h s) (joined h s) (joined_is_some h s) none

-- A legal history has no more events than its load pays for, so the place of a fork fits 32 bits.
use Rattle.std.proofs.Common.{[], ℕ, ◌+◌, ◌<◌, ◌^◌, ◌∷◌, ◌≤◌, arith, length, length-append, refl}
use Rattle.scope_rows.specs.{Accepts, Event, Fork, History, Label, Legal, Limits, Origin, followed, load, missing, owed, row_check}
use Rattle.scope_rows.proofs.Words.{along, checks_at, load_push, ltb-false, not_refused, owed_event}

-- the load pays for the events, and for what may still come at no cost
record IsPaid (h : History) : Type 0 where
  covered : length h.events + owed h ≤ load h

paid_base : (b : Origin) → IsPaid (record { base = b; events = [] })
unfolding load owed missing
paid_base b = record { covered = omega arith }

paid_more : (L : Limits) (h : History) (e : Event) → Legal L h → Accepts L h e → IsPaid h → IsPaid (followed h e)
paid_more L h e legal ok paid = record { covered = omega (arith, paid.covered, owed_event L h e ok, load_push h e, length-append h.events (e ∷ [])) }

fork_load : (L : Limits) (h : History) (a s : ℕ) (label : Label) → Accepts L h (Fork a s label) → load h ≤ L.load
unfolding row_check
fork_load L h a s label ok =
    let fits = ltb-false _ _ (not_refused _ _ (checks_at _ 7 _ ok.passed refl)) in
    omega (arith, fits)

-- if a fork is accepted its place fits 32 bits
pub fork_place : (L : Limits) (h : History) (a s : ℕ) (label : Label) → Legal L h → Accepts L h (Fork a s label) → length h.events < 2 ^ 32
fork_place L h a s label legal ok =
    let paid = along L IsPaid paid_base (λ g x lawful passed so. paid_more L g x lawful passed so) h legal in
    omega (arith, paid.covered, fork_load L h a s label ok, L.load_in_range)

-- What the setters of a realm's cells have told.
use Rattle.std.specs.Prelude.{[], ℕ, ◌++◌, ◌+◌, ◌<◌, ◌∷◌, ◌≡◌, ◌≤◌, List, None, Option, Some, length, option_map, slice_get}
use Rattle.realm_lock.specs.Words.{Cancellation, CellValue, History, IsCancelOrderOf, SetterValue, cancelled_at, cause, opened_count, option_and_then, option_or}

-- the setters in the order of their scopes, for how many there is room, and of how many cancelled scopes
-- they were used
pub record MarksValue : Type 0 where
  pub setters : List SetterValue
  pub room : ℕ
  pub marked : ℕ

-- what a mark of scope s says after h: why the scope is cancelled, and the place at which it became so
abbrev pub mark_of : History → ℕ → Option Cancellation
mark_of h s = option_and_then (λ at. option_map (λ c. record { cause = c; number = at }) (cause h s)) (cancelled_at h s)

-- the setter is that of scope s, and was used just if the scope is cancelled after h: for its cause, with its
-- place
pub record IsSetterOf (h : History) (s : ℕ) (setter : SetterValue) : Type 0 where
  pub of : setter.cell.scope ≡ s
  pub used : setter.used ≡ mark_of h s

-- there is one setter for each scope since the base, and it is that scope's
pub record AreSetters (h : History) (setters : List SetterValue) : Type 0 where
  pub each : length setters ≡ opened_count h
  pub own : (i : ℕ) (x : SetterValue) → slice_get setters i ≡ Some x → IsSetterOf h (h.base.scopes + 1 + i) x

-- the setters are those of h, and so many of its scopes are cancelled
pub record AreMarks (h : History) (marks : MarksValue) : Type 0 where
  pub setters : AreSetters h marks.setters
  pub order : List ℕ
  pub ordered : IsCancelOrderOf h order
  pub counted : length order ≡ marks.marked

-- the marks of h are those of k too, and what k has beside them comes after h
pub record CancelsGrow (h k : History) : Type 0 where
  pub base : k.base ≡ h.base
  pub longer : length h.events ≤ length k.events
  pub kept : (s : ℕ) (m : Cancellation) → mark_of h s ≡ Some m → (mark_of k s ≡ Some m) × (m.number < length h.events)
  pub fresh : (s : ℕ) (m : Cancellation) → mark_of h s ≡ None → mark_of k s ≡ Some m → length h.events ≤ m.number

-- the marks were those of an earlier history, and beside them are the setters of the scopes that were opened
-- since, which were not used
pub record AreBehind (k : History) (marks : MarksValue) : Type 0 where
  pub then : History
  pub grows : CancelsGrow then k
  pub old : List SetterValue
  pub fresh : List SetterValue
  pub are : marks.setters ≡ old ++ fresh
  pub were : AreMarks then (record marks { setters = old })
  pub unused : (i : ℕ) (x : SetterValue) → slice_get fresh i ≡ Some x → (x.cell.scope ≡ k.base.scopes + 1 + length old + i) × (x.used ≡ None)
  pub each : length marks.setters ≡ opened_count k

-- the setter of scope s was added behind the others: it is that of the cell, and was not used
pub record AddsSetter (old new : MarksValue) (s : ℕ) (cell : CellValue) : Type 0 where
  pub setter : SetterValue
  pub cell_is : setter.cell ≡ cell
  pub of : cell.scope ≡ s
  pub unused : setter.used ≡ None
  pub is : new ≡ record old { setters = old.setters ++ setter ∷ [] }

-- the setter of scope s was used for its mark after h, if it hadn't been used; the others are as they were
pub record UsesSetter (h : History) (s : ℕ) (old new : MarksValue) : Type 0 where
  pub at : ℕ
  pub place : h.base.scopes + 1 + at ≡ s
  pub before : SetterValue
  pub after : SetterValue
  pub was : slice_get old.setters at ≡ Some before
  pub is : slice_get new.setters at ≡ Some after
  pub cell : after.cell ≡ before.cell
  pub used : after.used ≡ option_or before.used (mark_of h s)
  pub others : (i : ℕ) → (i ≡ at → ⊥) → slice_get new.setters i ≡ slice_get old.setters i
  pub kept : new ≡ record old { setters = new.setters }
  pub each : length new.setters ≡ length old.setters

-- the cell is that of the setter at the place
abbrev pub IsCellAt : List SetterValue → ℕ → CellValue → Type 0
IsCellAt setters i cell = (x : SetterValue) × (slice_get setters i ≡ Some x) × (cell ≡ x.cell)

-- Histories without the ends that labels expect, and that nothing is decided by these.
use Rattle.std.specs.Prelude.{ℕ, ◌≡◌, None, Some, map, slice_get}
use Rattle.scope_log.specs.Words.{Event, Fork, History, Label, Legal, Limits, check_of, is_already}

-- the event, with a label that expects no end
abbrev pub without_due : Event → Event
without_due (Fork actor scope label) = Fork actor scope (record label { due = None })
without_due e = e

-- the history, with labels that expect no end
abbrev pub without_dues : History → History
without_dues h = record { base = h.base; events = map without_due h.events }

-- the event is refused or accepted alike on both, and is so already alike
pub record DecidedAlike (L : Limits) (h : History) (e : Event) : Type 0 where
  pub checked : check_of L (without_dues h) (without_due e) ≡ check_of L h e
  pub already : is_already (without_dues h) (without_due e) ≡ is_already h e

-- what end a label expects decides nothing
abbrev pub LabelsDecideNothing : Type 0
LabelsDecideNothing = (L : Limits) (h : History) (e : Event) → DecidedAlike L h e

-- so a legal history stays legal without
abbrev pub LegalWithoutDues : Type 0
LegalWithoutDues = (L : Limits) (h : History) → Legal L h → Legal L (without_dues h)

-- no label expects an end
abbrev pub ExpectsNone : History → Type 0
ExpectsNone h = (i actor scope : ℕ) (label : Label) → slice_get h.events i ≡ Some (Fork actor scope label) → label.due ≡ None

-- if none does, the history is as it was
abbrev pub NothingIsTaken : Type 0
NothingIsTaken = (h : History) → ExpectsNone h → without_dues h ≡ h

-- A history whose labels expect no end is as it was without dues.
use Rattle.std.proofs.Common.{[], ℕ, ◌∷◌, ◌≡◌, List, None, Some, ap, ap₂, map, refl, slice_get, suc, sym}
use Rattle.scope_log.specs.{Event, Fork, Label, NothingIsTaken, without_due}

NoneDue : List Event → Type 0
NoneDue es = (i actor scope : ℕ) (label : Label) → slice_get es i ≡ Some (Fork actor scope label) → label.due ≡ None

same_event : (e : Event) → ((actor scope : ℕ) (label : Label) → e ≡ Fork actor scope label → label.due ≡ None) → without_due e ≡ e
same_event (Fork actor scope label) none = ap (λ due. Fork actor scope (record label { due = due })) (sym (none actor scope label refl))
same_event _ none = refl

same_events : (es : List Event) → NoneDue es → map without_due es ≡ es
unfolding NoneDue
same_events [] none = refl
same_events (e ∷ es) none =
    ap₂ (λ (x : Event) (xs : List Event). x ∷ xs) (same_event e (λ actor scope label is. none 0 actor scope label (ap Some is))) (same_events es (λ i. none (suc i)))

pub nothing_is_taken : NothingIsTaken
unfolding NoneDue
nothing_is_taken h none = ap (λ (es : List Event). record { base = h.base; events = es }) (same_events h.events none)

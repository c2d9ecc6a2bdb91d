-- A look from the innermost open scope, which is taken off the list and put back.
use Rattle.std.proofs.Common.{[], ℕ, ◌++◌, ◌∙◌, ◌∷◌, ◌≡◌, IfSome, List, None, Option, Some, ap, inr, refl, sym}
use Rattle.job_runner.specs.{Agrees, CellValue, KeepsOthers, ListsOne, Mark, MatchOption, OpenScope, Seen, Shows, said_by, scope_here, scope_inside, seat_here}

seat_last : (around : Option Seen) (others : List OpenScope) (last : OpenScope) → seat_here around (others ++ last ∷ []) ≡ Some last.reader
seat_last around [] last = refl
seat_last around (first ∷ others) last = seat_last (Some first.reader) others last

scope_inside_last : (s : ℕ) (others : List OpenScope) (last : OpenScope) → scope_inside s (others ++ last ∷ []) ≡ Some last.scope
scope_inside_last s [] last = refl
scope_inside_last s (first ∷ others) last = scope_inside_last first.scope others last

scope_last : (around : Option Seen) (others : List OpenScope) (last : OpenScope) → scope_here around (others ++ last ∷ []) ≡ Some last.scope
scope_last around [] last = refl
scope_last around (first ∷ others) last = scope_inside_last first.scope others last

-- the mark of a seat at the last scope's own cell is of that scope
pub of_last : (around : Option Seen) (old others : List OpenScope) (before : OpenScope) (after : Seen) (shown : Option Mark) → old ≡ others ++ before ∷ [] → after.cell ≡ before.reader.cell → IfSome shown (λ mark. mark.seat ≡ after)
    → IfSome shown (λ mark. scope_here around old ≡ Some mark.scope)
of_last around old others before after None was cell seat = tt
of_last around old others before after (Some mark) was cell seat =
    ap (scope_here around) was ∙ (scope_last around others before ∙ ap Some (sym before.of ∙ (ap (λ (c : CellValue). c.scope) (sym cell ∙ ap (λ (s : Seen). s.cell) (sym seat)) ∙ mark.of)))

pub shows_last : (around : Option Seen) (old new others : List OpenScope) (before after : OpenScope) (shown : Option Mark) → old ≡ others ++ before ∷ [] → new ≡ others ++ after ∷ [] → after.reader.cell ≡ before.reader.cell → MatchOption shown ((before.reader.known ≡ None) × (after.reader.known ≡ None)) (λ mark. (mark.seat ≡ after.reader) × (after.reader.known ≡ Some (said_by mark)) × Agrees before.reader.known (said_by mark)) → Shows (seat_here around old) (seat_here around new) shown
shows_last around old new others before after shown old_is new_is cell mark = rw (old_is, new_is, seat_last around others before, seat_last around others after) (cell, mark)

pub keeps_others : (around : Option Seen) (old new others : List OpenScope) (before after : OpenScope) → old ≡ others ++ before ∷ [] → new ≡ others ++ after ∷ [] → after.scope ≡ before.scope → KeepsOthers around around old new
keeps_others around old new others before after was is same = inr (record { others = others; before = before; after = after; was = was; is = is; same = same; kept = refl })

-- what a look showed is of the seat that it left
pub shown_seat : (before after : Seen) (shown : Option Mark) → MatchOption shown ((before.known ≡ None) × (after.known ≡ None)) (λ mark. (mark.seat ≡ after) × (after.known ≡ Some (said_by mark)) × Agrees before.known (said_by mark)) → IfSome shown (λ mark. mark.seat ≡ after)
shown_seat before after None it = tt
shown_seat before after (Some mark) it = it.0

-- a scope that was added behind the others is listed as the last
pub lists_pushed : (s : ℕ) (old mid new : List OpenScope) (last : OpenScope) → last.scope ≡ s → last.reader.known ≡ None → mid ≡ old → new ≡ mid ++ last ∷ [] → ListsOne s old new
lists_pushed s old mid new last of fresh same is = record { listed = last; of = of; fresh = fresh; is = is ∙ ap (λ xs. xs ++ last ∷ []) same }

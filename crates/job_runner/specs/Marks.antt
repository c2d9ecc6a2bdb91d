-- Which seat a context's checkpoint looks from, and what it shows.
use Rattle.std.specs.Prelude.{[], ℕ, ◌∷◌, ◌≡◌, List, None, Option, Some, option_map}
use Rattle.job_runner.specs.Words.{Agrees, Mark, MatchOption, OpenScope, Seen, said_by}
use Rattle.job_runner.specs.Lists.{IsUnlisted}

-- the seat of the innermost open scope, or else the one of the scope around
abbrev pub seat_here : Option Seen → List OpenScope → Option Seen
seat_here around [] = around
seat_here around (first ∷ others) = seat_here (Some first.reader) others

-- the last of these scopes, or else scope s
abbrev pub scope_inside : ℕ → List OpenScope → Option ℕ
scope_inside s [] = Some s
scope_inside s (first ∷ others) = scope_inside first.scope others

-- whose scope's seat that is
abbrev pub scope_here : Option Seen → List OpenScope → Option ℕ
scope_here around [] = option_map (λ (m : Seen). m.cell.scope) around
scope_here around (first ∷ others) = scope_inside first.scope others

-- what a look from the seat showed, and left in it: a mark that it was shown before is shown again
abbrev pub Shows : Option Seen → Option Seen → Option Mark → Type 0
Shows None None None = Unit {0}
Shows (Some before) (Some after) shown = (after.cell ≡ before.cell) × MatchOption shown ((before.known ≡ None) × (after.known ≡ None)) (λ mark. (mark.seat ≡ after) × (after.known ≡ Some (said_by mark)) × Agrees before.known (said_by mark))
Shows _ _ _ = ⊥

-- the mark with which the job of a task in scope s begins: a seat at that scope's cell which was shown nothing; there
-- is none only if the scope isn't listed
abbrev pub IsMarkOf : ℕ → List OpenScope → Option Seen → Type 0
IsMarkOf s opened around = MatchOption around (IsUnlisted s opened) (λ (m : Seen). (m.cell.scope ≡ s) × (m.known ≡ None))

-- What is answered if the cell of a scope is asked for.
use Rattle.std.specs.Prelude.{ℕ, ◌≡◌, ◌⊎◌, Err, None, Ok, Result}
use Rattle.realm_lock.specs.Words.{CellValue, History, Memory, Refusal, Seen, scope_check}

-- the cell is that of scope s after h: it is refused for an unknown scope, and if a share of it is
abbrev pub GivesCell : History → ℕ → Result CellValue Refusal → Type 0
GivesCell h s (Ok cell) = (scope_check h s ≡ Ok tt) × (cell.scope ≡ s)
GivesCell h s (Err refusal) = (scope_check h s ≡ Err refusal) ⊎ ((scope_check h s ≡ Ok tt) × (refusal ≡ Memory))

-- the seat is of the cell, and was shown nothing yet
abbrev pub IsFresh : CellValue → Seen → Type 0
IsFresh cell seat = (seat.cell ≡ cell) × (seat.known ≡ None)

-- such a cell, and a fresh seat at it
abbrev pub CellAnswers : History → ℕ → Result (CellValue × Seen) Refusal → Type 0
CellAnswers h s (Ok given) = GivesCell h s (Ok given.0) × IsFresh given.0 given.1
CellAnswers h s (Err refusal) = GivesCell h s (Err refusal)

-- What an open answers beside the scope's number.
use Rattle.realm_lock.specs.Words.{ℕ, Checked, Err, Memory, Ok, Refusal, Result}

-- what was answered, without the cell, and without what a refusal hands back
abbrev pub scope_alone : {A B : Type 0} → Result (ℕ × A) (Refusal × B) → Result ℕ Refusal
scope_alone (Ok opened) = Ok opened.0
scope_alone (Err back) = Err back.0

-- the same if cell and seat are answered too
abbrev pub scope_marked : {A B D : Type 0} → Result (ℕ × A × D) (Refusal × B) → Result ℕ Refusal
scope_marked (Ok opened) = Ok opened.0
scope_marked (Err back) = Err back.0

-- what is refused if a check was passed or not, and there is no room
abbrev pub refusal_of : Checked → Refusal
refusal_of (Ok passed) = Memory
refusal_of (Err refusal) = refusal

-- What a reading may go by: the checks of the row that passed before it is asked.
use Rattle.std.specs.Prelude.{◌≡◌, Ok}
use Rattle.scope_checks.specs.Words.{Checked}

-- the check refuses nothing
abbrev pub Passes : Checked → Type 0
Passes check = check ≡ Ok tt

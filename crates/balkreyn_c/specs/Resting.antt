-- The word of a book.
use Rattle.std.specs.Prelude.{ℕ, ℤ, ◌==◌, Bool, false, if◌then◌else◌, true}
use Rattle.balkreyn_c.specs.Numbers.{busy, no_realm}

-- between calls it says whether the book holds a realm
abbrev pub resting : Bool → ℕ
resting true = 1
resting false = 0

-- what a call answers that found the word so, and no realm for it: nothing is there, or another call works on it
abbrev pub nothing : ℕ → ℤ
nothing found = if found == 0 then no_realm else busy

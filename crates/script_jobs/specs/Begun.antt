-- What is kept of a line that comes piece by piece, so that a note on it can be made.
use Rattle.std.specs.Prelude.{◌++◌, ◌+◌, if◌then◌else◌}
use Rattle.script_jobs.specs.Words.{[], ℕ, KEPT_LIMIT, LINE_LIMIT, List, Option, Some, TooLong, WordFault, fault_of, length, min, nat_lt, take}

-- the first bytes of a line, one more than a line may have, and how many bytes it has
pub record Begun : Type 0 where
  pub first : List ℕ
  pub bytes : ℕ

-- a count that stops at 2^64 - 1
abbrev pub capped : ℕ → ℕ
capped n = min n 18446744073709551615

-- a line without bytes
abbrev pub no_line : Begun
no_line = record { first = []; bytes = 0 }

-- what is kept of it once it goes on with more bytes
unfoldable pub grown_by : Begun → List ℕ → Begun
grown_by begun bytes = record { first = take KEPT_LIMIT (begun.first ++ bytes); bytes = capped (begun.bytes + length bytes) }

-- why the line is no command, if it is none: it has too many bytes, or a field is wrong
abbrev pub fault_in : Begun → Option WordFault
fault_in begun = if nat_lt LINE_LIMIT begun.bytes then Some (TooLong begun.bytes) else fault_of begun.first

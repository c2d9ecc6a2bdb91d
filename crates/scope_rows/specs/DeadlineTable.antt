-- What is kept of own deadlines: one of each scope since the base, and how a call changes that.
use Rattle.std.specs.Prelude.{[], ℕ, ◌++◌, ◌-◌, ◌∷◌, List, None, Option, slice_index_or}
use Rattle.scope_rows.specs.{Steps.altered, Table.IsNumbered, Table.place_of}

-- the deadlines of the scopes, in order of their numbers, of which `before` were given before
pub record DeadlineTable : Type 0 where
  pub before : ℕ
  pub deadlines : List (Option ℕ)
  -- how many more scopes it takes without memory
  pub spare : ℕ

-- the scope has an entry
abbrev pub HasDeadline : DeadlineTable → ℕ → Type 0
HasDeadline t s = IsNumbered t.before t.deadlines s

-- the entry of the scope
abbrev pub deadline_in : DeadlineTable → ℕ → Option ℕ
deadline_in t s = slice_index_or t.deadlines (place_of t.before s) None

-- the table of no scope
abbrev pub no_deadlines : ℕ → DeadlineTable
no_deadlines before = record { before = before; deadlines = []; spare = 0 }

-- the table with one scope more, which has this deadline
abbrev pub with_open : DeadlineTable → Option ℕ → DeadlineTable
with_open t d = record t { deadlines = t.deadlines ++ d ∷ []; spare = t.spare - 1 }

-- the table with the deadline of the scope set
abbrev pub with_deadline : DeadlineTable → ℕ → Option ℕ → DeadlineTable
with_deadline t s d = record t { deadlines = altered (λ old. d) t.deadlines (place_of t.before s) }

-- A list with an entry for each number after those that were given before, and what each call makes of it.
use Rattle.std.specs.Prelude.{[], ℕ, ◌++◌, ◌+◌, ◌-◌, ◌∷◌, List, length}
use Rattle.scope_rows.specs.{Steps.altered, Table.IsNumbered, Table.place_of}

-- the entries in order of their numbers, of which `before` were given before
pub record Entries (R : Type 0) : Type 0 where
  pub before : ℕ
  pub items : List R
  -- how many more entries it takes without memory
  pub spare : ℕ

-- there is an entry of number n
abbrev pub HasEntry : {R : Type 0} → Entries R → ℕ → Type 0
HasEntry e n = IsNumbered e.before e.items n

-- no entries, if so many numbers were given before
abbrev pub no_entries : {R : Type 0} → ℕ → Entries R
no_entries before = record { before = before; items = []; spare = 0 }

-- the entries with one more, which has the next number
abbrev pub with_next : {R : Type 0} → Entries R → R → Entries R
with_next e x = record e { items = e.items ++ x ∷ []; spare = e.spare - 1 }

-- the entries with another of number n
abbrev pub with_entry : {R : Type 0} → Entries R → ℕ → R → Entries R
with_entry e n x = record e { items = altered (λ old. x) e.items (place_of e.before n) }

-- no entries, and room for as many as there was and were
abbrev pub cleared : {R : Type 0} → Entries R → ℕ → Entries R
cleared e before = record { before = before; items = []; spare = e.spare + length e.items }

-- What a list that goes by numbers ends as, once the `&mut` to an entry has ended.
use Rattle.scope_rows.specs.Words.{ℕ, Fml, Lends, MutBor, RattleType}
use Rattle.scope_rows.specs.{Numbered.Entries, Numbered.with_entry, contracts.numbered.Numbered.the_row}

-- the number has the last value written through r
abbrev pub LendsEntry : (T : RattleType) → MutBor (Entries T.Denot) → ℕ → MutBor T.Denot → Fml
LendsEntry T e n r = Lends (the_row T) T e r (with_entry e.now n)

-- What is kept once a list that it lent is handed back.
use Rattle.std.specs.Prelude.{⊤, ◌≡◌}
use Rattle.scope_index.specs.Words.{Fml, MutBor, follows_so}
use Rattle.scope_index.specs.{IndexTables.IndexTable, contracts.index.RealmIndex.the_row}
use mathlib.Core.Option.{none}

-- it is what it was before
abbrev pub KeepsAll : MutBor IndexTable → Fml
KeepsAll kept = follows_so the_row the_row kept.ghost_name none (λ _ _. ⊤) (λ last. last ≡ kept.now)

-- What the table of cancels is once a list that it lent is handed back.
use Rattle.std.specs.Prelude.{⊤, ◌≡◌}
use Rattle.scope_index.specs.Words.{Fml, MutBor, follows_so}
use Rattle.scope_index.specs.{CancelTables.CancelTable, contracts.cancels.CancelIndex.the_row}
use mathlib.Core.Option.{none}

-- it is what it was before
abbrev pub KeepsTable : MutBor CancelTable → Fml
KeepsTable cancels = follows_so the_row the_row cancels.ghost_name none (λ _ _. ⊤) (λ last. last ≡ cancels.now)

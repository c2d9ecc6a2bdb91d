-- What a tree is once a list that it lent is handed back.
use Rattle.std.specs.Prelude.{⊤, ◌≡◌, List}
use Rattle.cancel_tree.specs.Words.{Fml, MutBor, ScopeNode, follows_so}
use Rattle.cancel_tree.specs.contracts.tree.Tree.{the_row}
use mathlib.Core.Option.{none}

-- its nodes are as they were
abbrev pub KeepsNodes : MutBor (List ScopeNode) → Fml
KeepsNodes tree = follows_so the_row the_row tree.ghost_name none (λ _ _. ⊤) (λ last. last ≡ tree.now)

-- The text of what a list of commands leaves, with its retirements and without them.
use Rattle.std.specs.Prelude.{◌≡◌, List}
use Rattle.tree_dump.specs.Terms.{Command, Limits, RetiresFreely, fresh, realm_after_all, without_retirements}
use Rattle.tree_dump.specs.TextTree.{tree_text}

-- if a list of commands without its retirements meets no limit, and no command behind an accepted
-- retirement names a number that was dropped, the tree of what it leaves is the same with the retirements
abbrev pub TreeStays : Type 0
TreeStays = (L : Limits) (commands : List Command) → RetiresFreely L commands → tree_text (realm_after_all (fresh L) (without_retirements commands)).history ≡ tree_text (realm_after_all (fresh L) commands).history

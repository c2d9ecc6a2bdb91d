-- The commands before the index were performed.
use Rattle.std.proofs.Common.{◌≡◌, take}
use Rattle.scope_script.specs.{realm_after_all, realm_of}
use Rattle.scope_script.proofs.performing.commands.perform_all.Given as goal

abbrev pub invariant-loop-command : goal.invariant-loop-command
invariant-loop-command g l = realm_of l.book ≡ realm_after_all (realm_of l.fn.book) (take l.command-index l.commands)

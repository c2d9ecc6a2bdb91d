-- The pairs before the index fit.
use Rattle.std.proofs.Common.{ℕ, ◌<◌, ◌≡◌, Some, slice_get}
use Rattle.script_journal.specs.{Binding, IsValue}
use Rattle.script_journal.proofs.fitting.pairs_fit.Given as goal

abbrev pub invariant-loop-pair : goal.invariant-loop-pair
invariant-loop-pair l = (i : ℕ) (pair : Binding) → i < l.pair-index → slice_get l.pairs i ≡ Some pair → IsValue pair.value

-- The pairs that a base holds, as a list.
use Rattle.std.specs.Prelude.{List}
use Rattle.std.specs.Arc.{arc_slice_items}
use Rattle.scope_rules.specs.declared.types.{bases.BasePairs.BasePairs, bases.BasePairs.TheVariants.Own, bases.BasePairs.TheVariants.Shared, events.Binding.Binding}

abbrev pub pairs_of : BasePairs → List Binding
pairs_of (Own pairs) = pairs.items
pairs_of (Shared pairs) = arc_slice_items pairs

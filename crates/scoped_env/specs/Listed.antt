-- The pairs of a list that may be there.
use Rattle.scoped_env.specs.Words.{[], ArcSlice, Binding, List, Option, arc_slice_items, option_map_or}

abbrev pub pairs_listed : {Z : Type 0} → Option (ArcSlice Binding Z) → List Binding
pairs_listed list = option_map_or arc_slice_items list []

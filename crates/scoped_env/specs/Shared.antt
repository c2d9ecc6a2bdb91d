-- The pairs of a list that several environments can hold.
use Rattle.scoped_env.specs.Words.{[], Binding, List, arc_slice_items, arc_value}
use Rattle.scoped_env.specs.declared.shared.PairList.{PairList, TheVariants.Empty, TheVariants.Few, TheVariants.Many}

abbrev pub pairs_of : PairList → List Binding
pairs_of Empty = []
pairs_of (Few pairs) = arc_slice_items pairs
pairs_of (Many row) = arc_value row

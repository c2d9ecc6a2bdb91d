-- The pairs of a batch.
use Rattle.scoped_env.specs.Words.{Binding, List, arc_slice_items, arc_value}
use Rattle.scoped_env.specs.declared.batch.BatchList.{BatchList, TheVariants.Few, TheVariants.Many}

abbrev pub pairs_in : BatchList → List Binding
pairs_in (Few pairs) = arc_slice_items pairs
pairs_in (Many pairs) = arc_value pairs

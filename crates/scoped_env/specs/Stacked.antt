-- How a stack of pairs is indexed.
use Rattle.scoped_env.specs.Words.{Binding, List, Option, OrderedKey, Value, drop}
use Rattle.scoped_env.specs.Keys.{AreEarlier, HasLatest}
use Rattle.std.specs.BTreeMap as tree

-- the pairs that are indexed
abbrev pub indexed : List Binding → List Binding
indexed pairs = drop 16 pairs

-- the index and the list of earlier values are those of the pairs behind the first sixteen
pub record IsIndexed (pairs : List Binding) (index : tree.BTreeMap OrderedKey Value) (shadowed : List (Option Value)) : Type 0 where
  pub latest : HasLatest index (indexed pairs)
  pub earlier : AreEarlier shadowed (indexed pairs)

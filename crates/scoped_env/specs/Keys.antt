-- Keys in order, and what an index has of a list of pairs.
use Rattle.std.specs.Prelude.{ℕ, ◌≡◌, List, Option, Some, length, slice_get, take}
use Rattle.scoped_env.specs.Words.{Binding, Name, OrderedKey, Ordering, Value, bound_to, nat_cmp, slice_cmp, text_of}
use Rattle.std.specs.BTreeMap as tree

-- keys in the order of their texts
abbrev pub key_cmp : (a b : OrderedKey) → Ordering
key_cmp a b = slice_cmp nat_cmp (text_of a.name) (text_of b.name)

-- the value that the index has of the key
abbrev pub value_in : tree.BTreeMap OrderedKey Value → Name → Option Value
value_in index key = tree.get key_cmp index (record { name = key })

-- the index has the value of the last pair with each key
abbrev pub HasLatest : tree.BTreeMap OrderedKey Value → List Binding → Type 0
HasLatest index pairs = (key : Name) → value_in index key ≡ bound_to key pairs

-- the list has, for each pair, the value that its key had by those before it
pub record AreEarlier (earlier : List (Option Value)) (pairs : List Binding) : Type 0 where
  pub count : length earlier ≡ length pairs
  pub each : (i : ℕ) (pair : Binding) → slice_get pairs i ≡ Some pair → slice_get earlier i ≡ Some (bound_to pair.key (take i pairs))

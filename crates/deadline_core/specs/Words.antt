-- What the definitions of this crate take from the libraries below and from the types of its code, from one place.
pub use Rattle.std.specs.{BTreeMap.is_at, BTreeSet.IsOrdered, Cmp.IsTotalOrder, Cmp.eq_by_cmp_equiv, Cmp.nat_cmp_total, Cmp.nat_eq_equiv, Cmp.on_total, Cmp.then_total, List.Contains, List.list_any, List.prefix_len}
pub use Rattle.std.specs.{List.take_while, Map.lookup, Option.IfNone, Option.IfSome, Option.IsSome, Option.option_copied, Option.option_eq, Ordering.eq_by_cmp, Ordering.is_eq, Ordering.is_gt, Ordering.nat_cmp}
pub use Rattle.std.specs.declared.cmp.Ordering.TheVariants.{Less}
unfoldable pub use Rattle.std.specs.List.Sorted.{IsStrictlySortedBy}

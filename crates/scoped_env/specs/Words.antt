-- What the definitions of this crate take from the libraries below and from the types of its code, from one place.
pub use Rattle.std.specs.Cmp.{nat_cmp_total, on_equiv, on_per, on_total, partial_equiv_from_equiv, partial_order_from_own_ties, partial_order_from_total}
pub use Rattle.std.specs.Option.{IfSome, IsNone, IsSome, MatchOption, is_some, option_map, option_map_or, option_or}
pub use Rattle.std.specs.{Arc.arc_slice_items, Arc.arc_value, BTreeMap.is_at, Cmp.Lexicographic.lists_total, Cmp.Lexicographic.nat_list_eq_equiv, Cmp.Lexicographic.pointwise, Cmp.Lexicographic.slice_cmp}
pub use Rattle.std.specs.{Cmp.Lexicographic.texts_ties, List.All, List.find, Map.lookup, Ordering.nat_cmp, Prelude.List, Prelude.Option, Prelude.[], Prelude.drop, Result.OnOk, Result.is_err}
pub use Rattle.std.specs.declared.{cmp.Ordering.Ordering, result.Result.Result, result.Result.TheVariants.Err, result.Result.TheVariants.Ok, sync.ArcSlice.ArcSlice}
pub use Rattle.scope_rules.specs.{Bindings.stacked, Bindings.without_last, History.History, History.before, History.followed, History.forked_count, History.is_fork, History.tasks, Legal.Accepts, Names.same_name, Names.text_of}
pub use Rattle.scope_rules.specs.{Origin.Origin, Origin.the_start}
pub use Rattle.scope_rules.specs.declared.types.{capacity.Limits.Limits, events.Binding.Binding, events.Event.Event, events.Event.TheVariants.Bind, events.Event.TheVariants.Fork, events.Event.TheVariants.Unbind, names.Name.Name}
pub use Rattle.scope_rules.specs.declared.types.{records.Forking.Forking, values.Label.Label, values.Value.Value}
pub use Rattle.scoped_env.specs.declared.keys.OrderedKey.{OrderedKey}
unfoldable pub use Rattle.scope_rules.specs.{Bindings.bindings, Bindings.bindings_within, Bindings.bound_to, Bindings.stack, History.forking, Legal.Legal, Replies.base_of, Search.earliest, Table.row_check}

-- The lemmas of libraries that the proofs of this crate take, from one place.
pub use Rattle.std.proofs.Common.{◌∙◌, None, ap, cond, eqb, subst, sym}
pub use Rattle.std.proofs.lemmas.Bool.{cases_lt, cases_order, eq-eqb, eqb-false, eqb-true, false≢true, leb-false, leb-true, or_left, or_right}
pub use Rattle.std.proofs.{Math.ListN.length-map, lemmas.Bool.Decides.nat_tests, lemmas.Bool.Decides.same_from_decides, lemmas.List.Elements.Contains-get_or, lemmas.List.Folds.length-prefix_len, lemmas.List.Folds.list_any_more}
pub use Rattle.std.proofs.{lemmas.List.Sums.prefix_len-le-length, lemmas.List.Sums.prefix_len_passes, lemmas.List.Sums.prefix_len_stops, lemmas.List.get_or-map, lemmas.List.get_or-take, lemmas.List.get_or_default}
pub use Rattle.std.proofs.{lemmas.List.take_all, lemmas.Map.Keys.Less-from_sorted, lemmas.Map.Lookups.exact_pairs, lemmas.Map.Lookups.exact_unsigned, lemmas.Map.Views.Contains-from_any, lemmas.Map.Views.list_any-from_Contains}
pub use Rattle.std.proofs.{lemmas.Map.Views.tells_apart, lemmas.Option.get_or_from_slice_get, lemmas.Option.same_Some, lemmas.Option.slice_get_read, lemmas.Option.slice_get_within, lemmas.Result.IfOk-weaker}

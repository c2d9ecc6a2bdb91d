-- The lemmas of libraries that the proofs of this crate take, from one place.
pub use Rattle.std.proofs.lemmas.Bool.{and_from, and_parts, both_ways, cases_Bool, cases_eq, cases_lt, cases_order, cond-true, eq-eqb, eqb-false, eqb-true, false_from_ne_true, le-leb, le-ltb, leb-false, leb-true, lt-ltb}
pub use Rattle.std.proofs.lemmas.Bool.{ltb-false, ltb-true, ne_eqb, not-false, not-true, not_from_false, not_from_true, or_cases, or_from, or_left, or_parts, or_right, true_from_ne_false}
pub use Rattle.std.proofs.lemmas.List.{append-nil, append_cancel_left, drop-drop, drop-replicate, drop-set-lt, length-replicate, length-set, length-take, map-append, take-append-drop, take-append-le, take-take, take_all}
pub use Rattle.std.proofs.{Common.◌∙◌, Common.ap, Common.sym, Common.take, Math.IntN.+ℤ_assoc, Math.IntN.+ℤ_comm, Math.IntN.+ℤ_idr, Math.Logic.∥∥₁_elim, Math.Seq.drop-append_seam, Math.Seq.take-append_seam, Math.Seq.take-suc}
pub use Rattle.std.proofs.{Math.Seq.take-suc-set, Props.props, lemmas.Bool.Decides.Decides-at, lemmas.Bool.Decides.Decides-int_eq, lemmas.Bool.Decides.nat_tests, lemmas.Grind.common_steps, lemmas.List.Elements.filter-append}
pub use Rattle.std.proofs.{lemmas.List.Elements.filter_map-append, lemmas.List.Sums.sum_by-append, lemmas.List.Sums.sum_by-take-le, lemmas.Option.same_Some, lemmas.Option.slice_get_past, lemmas.Option.slice_get_within}
pub use Rattle.std.proofs.{lemmas.Slice.Eq.bytes_eq-Decides, lemmas.Str.IsUtf8-from_ascii}

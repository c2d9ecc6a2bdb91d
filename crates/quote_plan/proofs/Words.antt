-- The lemmas of libraries that the proofs of this crate take, from one place.
pub use Rattle.std.proofs.Common.{◌∙◌, SFits, add-one, ap, arith, below_more, cond, drop, inl, inr, option_map, refl, rules, subst, suc, sym, w64, zero}
pub use Rattle.std.proofs.lemmas.Bool.{eq-eqb, eqb-true, le-ltb, lt-ltb, ltb-false, ne_eqb}
pub use Rattle.std.proofs.lemmas.List.{append-nil, append_assoc, get_or-take, length-append, length-map, length-take-le, map-append, take-append-le, take_all}
pub use Rattle.std.proofs.lemmas.List.Splits.{length-slice_split, slice_split-cons_no, slice_split_at, slice_split_first, slice_split_none}
pub use Rattle.std.proofs.lemmas.List.Sums.{fails_before_first, position_or_len_is, split_at_first}
pub use Rattle.std.proofs.{Math.ListN.get_or-append, Math.Seq.get_or-append_seam, Math.Seq.take-append_seam, lemmas.Bool.Decides.nat_tests, lemmas.Int.ints, lemmas.List.Elements.All-append}
pub use Rattle.std.proofs.{lemmas.List.Elements.All-nil, lemmas.List.Elements.filter_map-append, lemmas.List.Quantifiers.position-Some, lemmas.Option.slice_get-map, lemmas.Option.slice_get_read}
pub use Rattle.std.proofs.{lemmas.Option.slice_get_within, lemmas.Result.IfErr-weaker, lemmas.Result.on_ok_weaker}
pub use Rattle.scope_rules.proofs.NameLemmas.{same_text}

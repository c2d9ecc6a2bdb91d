-- The lemmas of libraries that the proofs of this crate take, from one place.
pub use Rattle.std.proofs.lemmas.Fmt.{contents_after_writes, decimal-digits_value, decimal_digit, decimal_nonempty, digits_decimal, digits_value-decimal, first_decimal, length-decimal-le, length_signed_le}
pub use Rattle.std.proofs.{Common.◌∙◌, Common.arith, Common.length, Math.Logic.∥∥₁_elim, Math.Seq.take-append_seam, Props.props, lemmas.Bool.Decides.nat_tests, lemmas.Bool.and_parts, lemmas.Grind.common_steps}
pub use Rattle.std.proofs.{lemmas.Int.Digits.digits_value_more, lemmas.List.Folds.list_all-append, lemmas.List.Folds.list_all_at, lemmas.List.Folds.list_all_more, lemmas.List.Splits.slice_split_at}
pub use Rattle.std.proofs.{lemmas.List.Splits.slice_split_none, lemmas.List.Sums.AllPass-from_list_all, lemmas.List.Sums.passes_at_first, lemmas.List.Sums.position_or_len_is, lemmas.List.take_all, lemmas.Option.cond_some}
pub use Rattle.std.proofs.{lemmas.Option.none-some, lemmas.Option.same_Some, lemmas.Option.some_pair_parts, lemmas.Slice.Eq.bytes_eq-Decides, lemmas.Str.Parse.IsNumeralModel, lemmas.Str.Parse.digits_value-take-le}
pub use Rattle.std.proofs.{lemmas.Str.Parse.numerals_by_value, lemmas.Str.digit_value_digit}
pub use Rattle.scope_rules.proofs.{NameLemmas.same_text, StoredNames.name_is_stored, StoredNames.other_is_not_stored, StoredNames.stored_parts}

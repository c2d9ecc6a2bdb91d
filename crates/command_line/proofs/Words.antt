-- The lemmas of libraries that the proofs of this crate take, from one place.
pub use Rattle.std.proofs.Common.{◌+◌, ◌<◌, ◌^◌, ◌∙◌, Bor, Err, Ok, add-one, ap, append-nil, append_assoc, arith, cond, drop, get_or, inl, inr, le-leb, leb-true, length, refl, subst, sym, true≢false}
pub use Rattle.std.proofs.{Math.Dec.eqb-suc-zero, Math.Seq.drop-cons, lemmas.List.drop_all, lemmas.List.map-append, lemmas.Result.IfErr-weaker, lemmas.Result.IfOk-weaker, lemmas.Str.digit_value_digit}
pub use Rattle.std.proofs.{lemmas.Str.Parse.without_leading_plus_none, lemmas.Str.Pattern.IsSplitOnceResult, lemmas.Str.Pattern.split_once_first}
pub use Rattle.clap.proofs.WalkLemmas.{both, first_value-rows, raw_values-rows}

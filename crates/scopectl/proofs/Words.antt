-- The lemmas of libraries that the proofs of this crate take, from one place.
pub use Rattle.std.proofs.Common.{◌∙◌, add-one, ap, append-nil, arith, inl, inr, refl, slice_get, subst, sym, take}
pub use Rattle.std.proofs.lemmas.Option.{get_or_from_slice_get, slice_get-get_or, slice_get_within}
pub use Rattle.std.proofs.{KnownBytes.Appends-trans, KnownBytes.Consumes-trans, Math.Seq.drop-cons, lemmas.List.drop_all, lemmas.Result.IfErr-weaker, lemmas.Result.IfOk-weaker}

-- The lemmas of libraries that the proofs of this crate take, from one place.
pub use Rattle.std.proofs.Common.{◌∙◌, Ok, ap, arith, inl, inr, length, length-append, max, refl, rules, subst, sym, true, true≢false}
pub use Rattle.std.proofs.lemmas.List.{Elements.All-append, Elements.All-cons, Elements.All-nil, append-nil, append_assoc, map-append, nil_from_length}
pub use denote.Param.Always.{always_mut, mut_next}

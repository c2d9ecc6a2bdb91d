-- The lemmas of libraries that the proofs of this crate take, from one place.
pub use Rattle.std.proofs.lemmas.List.{append-nil, append_assoc, get_or-drop, length-append, length-map, length-take-le, map-append, map_push, take-append-drop, take-map}
pub use Rattle.std.proofs.{Common.ap, Common.arith, Common.rules, Common.sym, Math.Seq.take-append_seam, lemmas.Bool.Decides.nat_tests, lemmas.Fn.filter_same, lemmas.List.Elements.All-head, lemmas.List.Elements.All-pop}
pub use Rattle.std.proofs.{lemmas.List.Elements.All-push, lemmas.List.Elements.All-rest, lemmas.List.Elements.All-same, lemmas.List.Sorted.IsPermutation-append_right, lemmas.List.Sorted.IsPermutation-refl}
pub use Rattle.std.proofs.{lemmas.List.Sorted.IsPermutation-swap_remove, lemmas.List.Sorted.IsPermutation-to_front, lemmas.List.Sorted.IsPermutation-trans}

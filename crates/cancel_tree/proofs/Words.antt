-- The lemmas of libraries that the proofs of this crate take, from one place.
pub use Rattle.std.proofs.Common.{◌∙◌, None, Some, ap, length, refl, subst, sym}
pub use Rattle.std.proofs.lemmas.Bool.{cases_Bool, cases_eq, cases_lt, eq-eqb, eqb-false, eqb-true, false≢true, le-leb, leb-false, leb-true, lt-leb, ne_eqb}
pub use Rattle.std.proofs.lemmas.List.Elements.{All-append, All-cons, All-contains, All-from_get_or, All-head, All-nil, All-tail, All-weaker, Contains-get_or}
pub use Rattle.std.proofs.lemmas.List.Sorted.{All-permutation, IsNonDecreasingBy-from_sort, IsPermutation-append, IsPermutation-append_left, IsPermutation-put_mid, IsPermutation-refl, length_permutation, sum_by-IsPermutation}
pub use Rattle.std.proofs.{Math.ListN.length-set, lemmas.Bool.Decides.nat_tests, lemmas.List.Kept.AllPairs-cons, lemmas.List.Sums.count_by-le-length, lemmas.List.Sums.sum_by-append, lemmas.List.Sums.sum_by-cons}
pub use Rattle.std.proofs.{lemmas.List.Sums.sum_by-set, lemmas.List.Sums.sum_by_push, lemmas.List.append-nil, lemmas.List.append_assoc, lemmas.List.length-drop, lemmas.List.set-get_or, lemmas.Option.same_Some}
pub use Rattle.std.proofs.{lemmas.Option.slice_get-get_or, lemmas.Option.slice_get_past, lemmas.Option.slice_get_within, lemmas.Slice.take-put_mid}
pub use Rattle.scope_rules.proofs.{ChainLaws.along, ChainLaws.cancel_kept, ChainLaws.cancel_law, ChainLaws.chain_kept, ChainLaws.chain_law, ChainLaws.least_law, EarliestLaws.cancel_earliest, EarliestLaws.some_none}
pub use Rattle.scope_rules.proofs.{Prefixes.get_push}
pub use borrow.Rule.Slice.PartMut.{mid_len, mid_of, put_mid}

-- The lemmas of libraries that the proofs of this crate take, from one place.
pub use Rattle.std.proofs.{Common.◌∙◌, Common.sym, lemmas.Bool.Decides.nat_tests, lemmas.Int.ints, lemmas.List.Folds.find-append, lemmas.List.Sums.sum_by-cons, lemmas.List.Sums.sum_by_push, lemmas.List.length_push}
pub use Rattle.scope_rules.proofs.Completions.{total_of-push}

-- The lemmas of libraries that the proofs of this crate take, from one place.
pub use Rattle.std.proofs.Common.{◌∙◌, Option, Some, ap, arith, length, refl, subst, sym, take}
pub use Rattle.std.proofs.lemmas.List.{append-nil, append_assoc, length-append, length-map, map-append, map_push, nil_from_length, reverse-append, reverse-reverse, take-map}
pub use Rattle.std.proofs.lemmas.List.Elements.{All-drop, All-map, All-pop, All-push, All-same, All-take, All-weaker, filter_passes}
pub use Rattle.std.proofs.{Math.Seq.drop-append_seam, Math.Seq.take-append_seam, lemmas.Bool.Decides.nat_tests, lemmas.Fn.filter_same, lemmas.List.Sorted.All-permutation, lemmas.List.Sorted.IsPermutation-append_comm}
pub use Rattle.std.proofs.{lemmas.List.Sorted.IsPermutation-append_right, lemmas.List.Sorted.IsPermutation-trans, lemmas.List.Sorted.length_permutation}
pub use Rattle.realm_core.proofs.Unopened.{innermost_still, may_finish}
pub use Rattle.realm_lock.proofs.Waits.{err_after, ok_after}
pub use Rattle.scope_rules.proofs.{ClosingScopes.nothing_open, ClosingScopes.nothing_runs, PassedRows.finish_passed}
pub use Rattle.share_ledger.proofs.{Histories.beginning_legal, Histories.legal_history, Waits.started_runs}

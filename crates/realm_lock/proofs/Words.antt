-- The lemmas of libraries that the proofs of this crate take, from one place.
pub use Rattle.std.proofs.Common.{ℕ, ◌∙◌, Err, Ok, ap, inr, refl, subst, sym}
pub use Rattle.std.proofs.lemmas.List.{append_assoc, get_or-append_right, get_or-map, get_or_append_left, length-map, length-set, same_from_push, take-append-drop, take_more}
pub use Rattle.std.proofs.{Math.Seq.take-length, lemmas.Bool.Decides.Decides-eqb, lemmas.Bool.both_ways, lemmas.Bool.cases_eq, lemmas.Bool.cases_lt, lemmas.Bool.eqb-true, lemmas.Bool.le-ltb}
pub use Rattle.std.proofs.{lemmas.List.Elements.Contains-append_cases, lemmas.List.Elements.Contains-append_left, lemmas.List.Elements.Contains-append_right, lemmas.List.Elements.Contains-get_or}
pub use Rattle.std.proofs.{lemmas.List.Folds.Any-from_list_any, lemmas.List.Kept.AllPairs-filter, lemmas.Map.Made.IsDistinct-from_AllPairs, lemmas.Map.Steps.length-le_from_distinct_below, lemmas.Option.get_or_from_slice_get}
pub use Rattle.std.proofs.{lemmas.Option.same_Some, lemmas.Option.slice_get-get_or, lemmas.Option.slice_get_read, lemmas.Option.slice_get_within}
pub use Rattle.cancel_tree.proofs.OrderLaws.{order_unique}
pub use Rattle.realm_core.proofs.{Joining.agrees_on, Joining.agrees_same, Joining.joins_later, Kept.begun_asked, Kept.begun_looked, Others.last_passes, ToldCalls.open_told}
pub use Rattle.scope_rules.proofs.{ChainsGrow.cancel_new, Earlier.opening_shown, Earlier.opening_within, Growing.opening_stays, Innermosts.opened_after, OneEventMore.opening_split, Owing.count_push, Staying.cancel_opened}
pub use Rattle.scope_rules.proofs.{Staying.cancel_stays, Staying.cancel_within_history, Timed.moment_grows}
pub use Rattle.share_ledger.proofs.Histories.{beginning_legal, history-push, legal_history}

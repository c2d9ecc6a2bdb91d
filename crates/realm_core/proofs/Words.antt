-- The lemmas of libraries that the proofs of this crate take, from one place.
pub use Rattle.std.proofs.Common.{ℕ, ◌∙◌, Bool, None, Some, ap, refl, reverse, subst, sym}
pub use Rattle.std.proofs.lemmas.Bool.{and_from, and_parts, both_ways, cases_Bool, cases_eq, cases_lt, eq-eqb, eqb-true, false_from_ne_true, lt-ltb, ltb-true, ne_eqb, not-true, or_cases, or_from, or_right}
pub use Rattle.std.proofs.lemmas.List.Sorted.{All-permutation, IsPermutation-refl, IsPermutation-swap, IsPermutation-sym, IsPermutation-trans, length_permutation, sum_by-IsPermutation}
pub use Rattle.scope_rules.proofs.Innermosts.{HasUnclosed, innermost_is, innermost_is_none, innermost_later, innermost_unclosed, opened_after, unclosed_innermost}
pub use Rattle.scope_rules.proofs.OneEventMore.{along, closed_grows, closed_stays, closing_grows, closing_stays, forking_same, forking_split, joined_grows, opening_grows, opening_same, opening_split, started_grows}
pub use Rattle.scope_rules.proofs.OneEventMore.{unclosed_earlier}
pub use Rattle.share_ledger.proofs.Histories.{advanced-append, beginning_legal, goes_on, history-push, legal_advance, legal_beginning, legal_history, retired_without_scopes}
pub use Rattle.std.proofs.{Math.Bool.or-false, Math.Numerals.add-one, Math.Seq.take-length, lemmas.List.Elements.All-cons, lemmas.List.Elements.filter-append, lemmas.List.Folds.list_any-append, lemmas.List.append-nil}
pub use Rattle.std.proofs.{lemmas.List.append_assoc, lemmas.List.map-append, lemmas.List.reverse-append, lemmas.Map.Views.any-filter_same, lemmas.Option.get_or_from_slice_get, lemmas.Option.same_Some}
pub use Rattle.std.proofs.{lemmas.Option.slice_get-get_or, lemmas.Option.slice_get_cases, lemmas.Option.slice_get_read, lemmas.Option.slice_get_within}
pub use Rattle.scope_checks.proofs.Checked.{scope_passes, task_passes}
pub use Rattle.scope_log.proofs.{LogStates.unended, LogSteps.entries_grow, NewLogs.log_grows}
pub use Rattle.scope_rows.proofs.{FirstUnclosed.next_is, Unopened.closing_opened}
pub use Rattle.scope_rules.proofs.{Accepted.checks_at, Accepted.not_not, Accepted.not_refused, ClosingOwners.live_is_unclosed, ClosingOwners.owners_act, ClosingScopes.nothing_open, CompletionSteps.is_task_stays}
pub use Rattle.scope_rules.proofs.{Completions.count_by-cons, Earlier.earliest_first, Earlier.scope_given, EarliestLaws.cancel_earliest, Forkings.IsForked, Forkings.forked_after, Growing.opening_stays}
pub use Rattle.scope_rules.proofs.{InnermostSteps.innermost_end_other, InnermostSteps.innermost_open_other, InnermostSteps.innermost_same, Nesting.IsOpened, Nesting.chain_outwards, Nesting.forked_opened, NewScopes.scope_passed}
pub use Rattle.scope_rules.proofs.{Openings.and_then_some, Openings.if_some, Owing.count_push, OwnSteps.own_from, OwnSteps.own_next, PassedRows.IsActor, PassedRows.ender_passed, PassedRows.finisher_passed, PassedRows.owner_passed}
pub use Rattle.scope_rules.proofs.{PassedRows.starter_passed, Pushing.legal_push, SettledTasks.settled_task, SettledTasks.settled_where_all, StageSteps.finished_forked, StageSteps.started_forked, Stages.running_forked}
pub use Rattle.scope_rules.proofs.{Stages.settled_stays, Stages.stage_is, Stages.staged, Stages.waiting_forked, StateSteps.ending_grows, StateSteps.no_ending, VerdictSteps.violated_grows}
pub use Rattle.share_ledger.proofs.{Ends.tells_history, Told.end_in-append, Told.grant-append, Told.seen_tells, Waits.given_ticket_waits, Waits.started_ticket_runs}

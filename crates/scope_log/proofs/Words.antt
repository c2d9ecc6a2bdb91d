-- The lemmas of libraries that the proofs of this crate take, from one place.
pub use Rattle.std.proofs.Common.{ℕ, ◌∙◌, List, ap, refl, sym, take}
pub use Rattle.std.proofs.lemmas.Bool.{and_right, both_ways, eq-eqb, eqb-false, eqb-true, false_from_ne_true, le-leb, leb-true, lt-ltb, ltb-false, ltb-true, ne_eqb, or_cases, or_parts}
pub use Rattle.std.proofs.lemmas.List.{append-nil, length-map, map-append, take-append-le, take-map, take_all, take_more}
pub use Rattle.scope_rules.proofs.Earlier.{forking_event, forking_shown, forking_within, get_take, opening_event, opening_within, scope_given, scope_number, task_given}
pub use Rattle.scope_rules.proofs.OneEventMore.{along, finished_grows, forking_grows, forking_later, forking_same, forking_split, joined_grows, last_event, opening_later, opening_same, opening_split, rejected_grows, started_grows}
pub use Rattle.scope_rules.proofs.PassedRows.{IsActor, IsOwner, actor_passed, begin_close_passed, end_close_passed, ender_passed, finish_passed, finisher_passed, fork_passed, rejecter_passed, starter_passed}
pub use Rattle.std.proofs.lemmas.{Bool.Decides.nat_tests, List.Concat.flat_map-append, List.Elements.filter-append, List.Elements.filter_map-append, List.Folds.find-append, List.Folds.list_any-append}
pub use Rattle.std.proofs.lemmas.{List.FromFn.length-range_with_len, List.Sums.length-filter, List.Sums.prefix_len-le-length, List.Sums.sum_by-append, Option.slice_get-map}
pub use Rattle.scope_rules.proofs.{Accepted.checks_at, Accepted.entry_at, Accepted.not_refused, Accepted.running_task, Answered.joining_inside, Answered.joining_stays, Bound.same_truth, ChainsGrow.cancel_new}
pub use Rattle.scope_rules.proofs.{ChainsGrow.cancelled_before_stays, ChainsGrow.cancelled_by_now, ClosingScopes.nothing_open, CompletionSteps.completions_grow, CompletionSteps.is_task_stays, Completions.count_by-cons}
pub use Rattle.scope_rules.proofs.{EarliestLaws.cancel_earliest, Forkings.IsForked, Forkings.forked_after, Forkings.task_there, Growing.opening_place, Growing.opening_stays, Growing.own_stays, InnermostSteps.next_opening}
pub use Rattle.scope_rules.proofs.{Innermosts.innermost_unclosed, Nesting.IsOpened, Nesting.forked_opened, Nesting.legal_before, Nesting.opened_before, NewScopes.joined_opened, NewScopes.moved_opened, NewScopes.scope_passed}
pub use Rattle.scope_rules.proofs.{Numbers.range_push, Openings.and_then_some, Openings.if_some, Owing.count_push, Owing.owed_event, OwnSteps.own_from, OwnSteps.own_next, Prefixes.count_by_at_yes, Prefixes.get_push}
pub use Rattle.scope_rules.proofs.{Prefixes.option_or-assoc, Prefixes.option_or-none, Prefixes.take_at, Pushing.before_last, Pushing.before_push, Pushing.legal_push, Pushing.load_push, Pushing.stack_within}
pub use Rattle.scope_rules.proofs.{Searching.earliest_same, Searching.earliest_where, StageSteps.finished_forked, StageSteps.next_forking, StageSteps.rejected_forked, StageSteps.started_forked, Stages.running_forked}
pub use Rattle.scope_rules.proofs.{Stages.same_staged, Stages.stage_is, Stages.waiting_forked, StateSteps.no_ending, StateSteps.state_ended, StateSteps.state_is, StateSteps.state_stays, Staying.cancel_grows, Staying.cancel_of}
pub use Rattle.scope_rules.proofs.{Staying.cancel_opened, Staying.cancel_stays, Staying.cancel_within_history, Staying.own_place, Tallies.any_counted, TaskLists.listing_same, TaskLists.values_same, Timed.deadline_grows}
pub use Rattle.scope_rules.proofs.{Timed.moment_grows}
pub use mathlib.Core.Path.{fun_ext}

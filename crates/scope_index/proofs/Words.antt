-- The lemmas of libraries that the proofs of this crate take, from one place.
pub use Rattle.std.proofs.Common.{[], ℕ, ◌∙◌, Some, ap, arith, false, option_map, refl, subst, sym, true}
pub use Rattle.std.proofs.lemmas.Bool.{and_right, both_ways, cases_lt, eq-eqb, eqb-false, eqb-true, false_from_ne_true, false≢true, le-leb, le-ltb, leb-false, leb-true, lt-leb, lt-ltb, ltb-false, ltb-true, ne_eqb, or_cases}
pub use Rattle.std.proofs.lemmas.Bool.{or_left, or_right}
pub use Rattle.scope_rows.proofs.Places.{AreRight, entry_there, opened_numbered, place_within, right_altered, right_pushed, scope_at, scope_of_is, scope_row_is}
pub use Rattle.scope_rows.proofs.WantsMet.{can_begin_close, can_end_close, can_finish, can_fork, can_open, can_reject, can_start, counts_are, forks_within}
pub use Rattle.scope_rules.proofs.Nesting.{IsOpened, forked_opened, legal_before, opened_before, opened_some, outer_inward, outer_opened, surrounding_opened}
pub use Rattle.scope_rules.proofs.OneEventMore.{along, closing_grows, finished_grows, forking_later, forking_other, forking_same, forking_split, joined_grows, joined_stays, last_event}
pub use Rattle.scope_rules.proofs.PassedRows.{IsActor, actor_passed, begin_close_passed, finish_passed, finisher_passed, fork_passed, open_passed, reject_passed, start_passed}
pub use Rattle.scope_rules.proofs.Staying.{Grows, cancel_grows, cancel_opened, cancel_stays, cancel_within_history, outer_stays, own_place, own_unopened}
pub use Rattle.std.proofs.lemmas.{Bool.Decides.nat_tests, Grind.common_steps, List.Elements.All-drop, List.Elements.Contains-get_or, List.Elements.filter-append, List.Folds.find-append, List.append-nil, List.drop-map}
pub use Rattle.std.proofs.lemmas.{List.get_or-map, List.length-map, List.length-take, List.take_more, Option.same_Some, Option.slice_get_past, Option.slice_get_within, Result.on_err_weaker}
pub use Rattle.cancel_tree.proofs.{AddLaws.push_cases, LatestLaws.latest_add, LatestLaws.latest_cancel, LatestLaws.latest_deadline, RowLaws.row_at, RowLaws.row_changed}
pub use Rattle.deadline_core.proofs.Views.{given_back}
pub use Rattle.join_rules.proofs.StandingLemmas.{are_listed, stands-push}
pub use Rattle.scope_rows.proofs.{Altering.altered_back, Altering.altered_here, Altering.altered_read, Altering.altered_split, CloseLaws.are_below, CountMoves.forked_by, CountMoves.moved_by, DeadlineSteps.deadlines_stay}
pub use Rattle.scope_rows.proofs.{DeadlineSteps.opened_has_deadline, Frames.tallies_of, JoinLaws.join_has, JoinLaws.join_passed, Joinings.joined_is_some, Keeping.count_same, Keeping.rows_bound, Keeping.rows_cancelled}
pub use Rattle.scope_rows.proofs.{Keeping.rows_deadline_moved, Keeping.rows_ticked, Keeping.rows_unbound, MarkLaws.covered_unclosed, MarkLaws.unclosed_covered, Paid.fork_place, Reading.scope_row_says, Reading.task_row_none}
pub use Rattle.scope_rows.proofs.{Reading.task_row_says, TaskLaws.names_finished, TaskLaws.names_rejected, TaskLaws.names_started, TaskLaws.running_is, TaskLaws.waiting_is, Unopened.next_unopened}
pub use Rattle.scope_rules.proofs.{Accepted.checks_at, Accepted.entry_at, Accepted.not_not, Accepted.not_refused, Accepted.running_task, Answered.joining_entry, Bound.some_same, ChainsGrow.parent_stays}
pub use Rattle.scope_rules.proofs.{ClosingOwners.closed_is_closing, ClosingOwners.live_is_unclosed, CompletionSteps.completions_grow, CompletionSteps.is_task_stays, Completions.count_by-cons, Completions.filter_map-push}
pub use Rattle.scope_rules.proofs.{Earlier.forking_shown, Earlier.forking_since, Earlier.opening_within, Earlier.scope_given, Forkings.IsTask, Forkings.task_there, Growing.forking_stays, Growing.opening_stays}
pub use Rattle.scope_rules.proofs.{InnermostSteps.next_opening, Innermosts.HasUnclosed, Innermosts.innermost_unclosed, Innermosts.opened_after, Innermosts.unclosed_innermost, Levels.parent_inward, NewScopes.HasNoTask}
pub use Rattle.scope_rules.proofs.{NewScopes.joined_opened, NewScopes.moved_opened, NewScopes.no_completions, NewScopes.no_task_of, NewScopes.scope_passed, Numbers.range_push, Openings.and_then_some, Owing.count_push}
pub use Rattle.scope_rules.proofs.{OwnSteps.kind_next, OwnSteps.own_from, OwnSteps.own_next, Parents.parent_smaller, Prefixes.get_push, Prefixes.last_of-push, Prefixes.option_or-none, Prefixes.take_at, Pushing.before_all}
pub use Rattle.scope_rules.proofs.{Pushing.before_last, Pushing.fork_number, Pushing.open_number, Searching.earliest_same, SettledTasks.settled_task, ShiftedChains.cancel_shifted, ShiftedChains.chain_shifted}
pub use Rattle.scope_rules.proofs.{ShiftedChains.effective_shifted, StageSteps.next_forking, StageSteps.stage_finished, StageSteps.stage_forked, StageSteps.stage_rejected, StageSteps.stage_started, Stages.running_forked}
pub use Rattle.scope_rules.proofs.{Stages.running_unsettled, Stages.settled_stays, Stages.waiting_forked, StateSteps.no_ending, StateSteps.state_ended, StateSteps.state_is, StateSteps.state_stays, TallySteps.tally}
pub use Rattle.scope_rules.proofs.{TallySteps.tally_stays, TaskLists.listing_same, TaskLists.values_same, Timed.counting_grows, Timed.moment_grows}
pub use Rattle.scoped_env.proofs.{Held.has_env_of_actor, ListSteps.get_of_push, Steps.envs_stay}

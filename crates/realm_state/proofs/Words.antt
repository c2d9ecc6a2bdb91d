-- The lemmas of libraries that the proofs of this crate take, from one place.
pub use Rattle.std.proofs.Common.{◌∙◌, Some, ap, length, refl, subst, sym}
pub use Rattle.std.proofs.lemmas.Bool.{both_ways, cases_lt, cases_order, eqb-true, false_from_ne_true, le-ltb, lt-ltb}
pub use Rattle.std.proofs.lemmas.{Bool.Decides.nat_tests, List.Sums.passes_at_first, List.Sums.position_or_len_is, List.take_more, Option.get_or_from_slice_get, Option.slice_get-get_or, Option.slice_get_within, Result.IfOk-weaker}
pub use Rattle.scope_checks.proofs.PassedReadings.{passed_bound, passed_owner}
pub use Rattle.scope_index.proofs.{CancelReadings.has_row, Held.opened_has_forks, NeverOpened.never, OpenSteps.false_by}
pub use Rattle.scope_journal.proofs.{EventRoom.events_room, EventRoom.free_room, Latest.own_within, Projected.IsSaid, Projected.each_said, Projected.next_said, Projected.place_said, Projected.projected, TrailWalks.bound}
pub use Rattle.scope_journal.proofs.{Trailed.event_trail, Trailed.opened_trail}
pub use Rattle.scope_log.proofs.{LogJoins.preview_told, LogSizes.entries_small, Splitting.none_where}
pub use Rattle.scope_rows.proofs.{DeadlineSteps.opened_has_deadline, Joinings.joined_is_some, Places.scope_at, Places.scope_row_is, Unopened.closing_opened}
pub use Rattle.scope_rules.proofs.{Accepted.checks_at, Accepted.lacks_begin, Accepted.not_not, Accepted.not_refused, Bound.held_by_innermost, Bound.is_held, Bound.stack_then, Completions.filter_map-push, Earlier.forking_event}
pub use Rattle.scope_rules.proofs.{Earlier.forking_within, Earlier.get_take, Earlier.opening_since, InnermostSteps.closed_opened, Nesting.IsOpened, Nesting.forked_opened, Nesting.opened_some, Nesting.surrounding_opened}
pub use Rattle.scope_rules.proofs.{NewScopes.HasNoTask, NewScopes.joined_opened, NewScopes.no_tally, NewScopes.scope_passed, Owing.if_refused, PassedRows.IsOwner, PassedRows.actor_passed, PassedRows.begin_close_passed}
pub use Rattle.scope_rules.proofs.{PassedRows.end_close_passed, PassedRows.owner_passed, Prefixes.take_whole, Pushing.before_all, Pushing.before_push, Pushing.entry_of_push, Pushing.load_push, Tallies.settled_by_counts}
pub use Rattle.scope_rules.proofs.{Tallies.tasks_by_counts}
pub use Rattle.scoped_env.proofs.Held.{has_env_of_actor}

-- The lemmas of libraries that the proofs of this crate take, from one place.
pub use Rattle.std.proofs.Common.{ℕ, ◌∙◌, None, ap, arith, inl, inr, refl, rules, subst, sym}
pub use Rattle.std.proofs.lemmas.Bool.{and_parts, both_ways, cases_eq, cases_lt, eq-eqb, eqb-true, false_from_ne_true, lt-ltb, ltb-false, ltb-true, ne_eqb, not-true, or_cases, or_from, or_right}
pub use Rattle.scope_rules.proofs.OneEventMore.{along, closed_grows, closing_grows, finished_grows, forking_same, joined_grows, last_event, opening_later, opening_other, opening_same, opening_split}
pub use Rattle.scope_rules.proofs.PassedRows.{IsActor, begin_close_passed, end_close_passed, finish_passed, fork_passed, open_passed, reject_passed, start_passed}
pub use Rattle.scope_rules.proofs.Pushing.{before_all, before_last, before_push, fork_number, legal_push, load_push, open_number}
pub use Rattle.scope_rules.proofs.StageSteps.{finished_forked, next_forking, stage_finished, stage_forked, stage_rejected, stage_same, stage_started}
pub use Rattle.std.proofs.lemmas.{Grind.common_steps, Option.same_Some, Option.slice_get-get_or, Option.slice_get_within}
pub use Rattle.scope_rules.proofs.{Accepted.checks_at, Accepted.entry_at, Accepted.not_refused, Accepted.running_task, ChainsGrow.parent_stays, ClosingOwners.live_is_unclosed, ClosingOwners.owners_act, Completions.count_by-cons}
pub use Rattle.scope_rules.proofs.{Earlier.opening_within, Earlier.scope_given, Earlier.unclosed_before, Forkings.IsForked, Forkings.forked_after, Growing.forking_stays, Growing.opening_number, Growing.opening_place}
pub use Rattle.scope_rules.proofs.{Growing.opening_stays, Heights.range_any, InnermostEnds.innermost_ended, InnermostEnds.opened_first, InnermostEnds.unclosed_around, InnermostSteps.closed_opened}
pub use Rattle.scope_rules.proofs.{InnermostSteps.innermost_end_other, InnermostSteps.innermost_open_other, InnermostSteps.innermost_opened, InnermostSteps.innermost_same, InnermostSteps.next_opening, Innermosts.HasUnclosed}
pub use Rattle.scope_rules.proofs.{Innermosts.innermost_is_none, Innermosts.innermost_unclosed, Innermosts.opened_after, Innermosts.unclosed_innermost, Levels.level_by_parent, Nesting.IsOpened, Nesting.forked_opened}
pub use Rattle.scope_rules.proofs.{Nesting.legal_before, Nesting.opened_before, Nesting.surrounding_opened, NewScopes.HasNoTask, NewScopes.joined_opened, NewScopes.moved_opened, NewScopes.no_tally, NewScopes.scope_passed}
pub use Rattle.scope_rules.proofs.{Openings.and_then_some, Openings.if_some, Owing.count_push, Owing.owed_event, Parents.parent_smaller, Prefixes.get_push, Prefixes.last_of-push, Prefixes.option_or-none, Prefixes.take_at}
pub use Rattle.scope_rules.proofs.{Searching.earliest_found, Searching.earliest_same, Stages.running_forked, Stages.waiting_forked, StateSteps.no_ending, StateSteps.state_ended, StateSteps.state_is, StateSteps.state_stays}
pub use Rattle.scope_rules.proofs.{Tallies.any_counted, TallySteps.tally, TallySteps.tally_forks, TallySteps.tally_moves, TallySteps.tally_stays, VerdictSteps.covers_by_innermost, VerdictSteps.violated_grows}

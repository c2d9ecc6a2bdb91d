-- The lemmas of libraries that the proofs of this crate take, from one place.
pub use Rattle.std.proofs.Common.{◌+◌, ◌||◌, ◌∙◌, Ok, add-one, ap, append_assoc, arith, cond, if◌then◌else◌, inl, inr, length, nat_lt, option_map, refl, slice_get, subst, suc, sym, take, zero}
pub use Rattle.std.proofs.lemmas.Bool.{both_ways, cases_Bool, eq-eqb, eqb-true, false_from_ne_true, ltb-false, ltb-true, or_from}
pub use Rattle.std.proofs.lemmas.List.{append-nil, length-map, map-append, take-append-le, take-map, take_all, take_more, Elements.filter_passes, Folds.list_any-append}
pub use Rattle.job_runner.proofs.Ended.{found_before}
pub use Rattle.quote_plan.proofs.Dues.{agree}
pub use Rattle.realm_core.proofs.{EndChains.closed_now, EndSteps.history_ended, Others.last_passes, Unopened.innermost_still}
pub use Rattle.realm_lock.proofs.Waits.{waited_sees}
pub use Rattle.scope_checks.proofs.Checked.{task_passes}
pub use Rattle.scope_index.proofs.{AtJoin.like_at_join, Over.forks_for, TaskLists.if_one, TaskLists.tasks_forked, TaskLists.tasks_kept}
pub use Rattle.scope_rules.proofs.Answered.{joining_inside, joining_stays, outcome_stays}
pub use Rattle.scope_rules.proofs.{Accepted.checks_at, Accepted.not_refused, ClosingScopes.nothing_open, Forkings.task_there, Growing.forking_stays, Growing.numbers_grow, Growing.opening_stays}
pub use Rattle.scope_rules.proofs.{InnermostEnds.innermost_ended, InnermostSteps.innermost_opened, InnermostSteps.next_opening, Innermosts.innermost_unclosed, Innermosts.opened_after}
pub use Rattle.scope_rules.proofs.{Nesting.forked_opened, NewScopes.HasNoTask, NewScopes.no_task_of, OneEventMore.closed_grows, OneEventMore.later, OneEventMore.rejected_grows, Openings.and_then_some}
pub use Rattle.scope_rules.proofs.{PassedRows.ender_passed, PassedRows.fork_passed, StageSteps.next_forking, Timed.moment_grows}
pub use Rattle.share_ledger.proofs.Histories.{advanced-append, beginning_legal, history-push, legal_advance, legal_beginning, legal_history, retired_without_scopes}
pub use Rattle.share_ledger.proofs.Lists.{none_narrower}

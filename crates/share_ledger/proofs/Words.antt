-- The lemmas of libraries that the proofs of this crate take, from one place.
pub use Rattle.std.proofs.lemmas.Bool.{and_from, and_parts, both_ways, cases_Bool, cond-false, cond-true, eq-eqb, eqb-false, eqb-true, false_from_ne_true, le-leb, leb-true, ne_eqb, not-true, or_cases, or_from, or_left, or_parts}
pub use Rattle.std.proofs.lemmas.Bool.{or_right}
pub use Rattle.scope_rules.proofs.StageSteps.{finished_forked, next_forking, rejected_forked, stage_forked, stage_same, stage_started, started_forked}
pub use Rattle.std.proofs.{Common.◌∙◌, Common.ap, Common.arith, Common.sym, Math.Bool.or-false, Math.Bool.or_assoc, Math.ListN.length-set, lemmas.List.Folds.list_any-append, lemmas.List.Sums.count_by-le-length}
pub use Rattle.std.proofs.{lemmas.List.Sums.sum_by-append, lemmas.List.append-nil, lemmas.List.append_assoc, lemmas.List.length-take}
pub use Rattle.atomic_table.proofs.Lists.{at_set, set_else}
pub use Rattle.scope_rules.proofs.{Accepted.checks_at, Accepted.not_refused, ChainsGrow.cancelled_before_stays, ChainsGrow.cancelled_by_now, ClosingScopes.nothing_runs, Completions.count_by-cons, Earlier.forking_within}
pub use Rattle.scope_rules.proofs.{Forkings.IsForked, Forkings.forked_after, Growing.forking_stays, Nesting.IsOpened, Nesting.forked_opened, Numbers.list_any-push, Owing.count_push, PassedRows.finisher_passed}
pub use Rattle.scope_rules.proofs.{PassedRows.fork_passed, PassedRows.starter_passed, Prefixes.option_or-assoc, Prefixes.option_or-none, Pushing.legal_push, Stages.running_not_waiting, Stages.running_stays}
pub use Rattle.scope_rules.proofs.{Stages.running_unsettled, Stages.waiting_forked, Stages.waiting_unsettled, StateSteps.ending_grows, StateSteps.no_ending}
pub use lib.ListN.{get_elem?}
pub use mathlib.Core.Option.{some, some-injective, some-ne-none}
pub use prog.Atomic.{either}

-- The lemmas of libraries that the proofs of this crate take, from one place.
pub use Rattle.std.proofs.Common.{◌∙◌, ◌≢◌, ◌⊎◌, add-one, ap, append-nil, append_assoc, arith, eqb-true, inl, inr, length-append, mul-le-mul, refl, subst, sum_by, sym, take, true≢false}
pub use Rattle.std.proofs.lemmas.Bool.{and_parts, both_ways, cases_eq, cases_lt, eq-eqb, false_from_ne_true, le-leb, le-ltb, leb-true, lt-leb, lt-ltb, ltb-false, ltb-true, ne_eqb, not-true, or_cases}
pub use Rattle.std.proofs.lemmas.Bool.{or_left, or_right}
pub use Rattle.std.proofs.lemmas.List.{get_or-append-add, get_or-drop, get_or_append_left, get_or_default, length-drop, length-take, take_all}
pub use Rattle.std.proofs.lemmas.List.Sums.{count_by-le-length, count_by_more_no, count_by_more_yes, length-filter, sum_by-append, sum_by-cons, sum_by_push}
pub use Rattle.std.proofs.lemmas.{Grind.common_steps, List.Elements.All-cons, List.Elements.All-head, List.Elements.All-nil, List.Elements.All-tail, List.Elements.filter-append}
pub use Rattle.std.proofs.lemmas.{List.FromFn.get_or-map-range_with_len, List.FromFn.length-map-range_with_len, List.FromFn.map-range_with_len_more, Option.slice_get-get_or, Option.slice_get_read}
pub use Rattle.run_times.proofs.Placed.{closed_anywhere, closed_at_place, closed_named, ended_is, ended_named, index_of, kept_first, kept_place, placed, start_is, started_is, started_named}
pub use Rattle.scope_rules.proofs.Earlier.{before_of_before, forking_since, forking_within, get_take, opening_before, opening_event, opening_since, opening_within, scope_given, unclosed_before}
pub use Rattle.scope_rules.proofs.Innermosts.{HasUnclosed, innermost_is, innermost_is_none, innermost_later, innermost_none, innermost_unclosed, opened_after, unclosed_innermost}
pub use Rattle.scope_rules.proofs.PassedRows.{begin_close_passed, finisher_passed, rejecter_passed, starter_passed}
pub use Rattle.scope_rules.proofs.{Accepted.checks_at, Accepted.not_refused, Accepted.waiting_task, ClosingOwners.closed_is_closing, ClosingOwners.live_is_unclosed, ClosingScopes.inner_closed}
pub use Rattle.scope_rules.proofs.{EarliestLaws.some_none, Forkings.forked_after, Forkings.forking_row, Forkings.opening_row, Growing.opening_number, InnermostEnds.closed_later, Nesting.legal_before}
pub use Rattle.scope_rules.proofs.{Numbers.range_push, Openings.and_then_some, Openings.if_some, Prefixes.count_by-take-le, Prefixes.count_by_at, Prefixes.take_at, Searching.earliest_more}
pub use Rattle.scope_rules.proofs.{Stages.running_forked, Stages.stage_is, Stages.staged, Staying.cancel_opened, Staying.cancel_within_history, Violations.below_some, Violations.below_where}

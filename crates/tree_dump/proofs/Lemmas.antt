-- The lemmas of libraries that the proofs of this crate take, from one place.
pub use Rattle.std.proofs.lemmas.Bool.{cases_eq, cases_lt, eq-eqb, eqb-true, lt-ltb, ltb-false, ltb-true, ne_eqb}
pub use Rattle.scope_rules.proofs.Earlier.{earliest_first, forking_since, forking_within, opening_since, opening_within, scope_given, unclosed_before}
pub use Rattle.std.proofs.{Common.◌∙◌, Common.Some, Common.ap, Common.codes, Common.string_bytes, Common.subst, Math.Nat.le-min, Math.Nat.min-eq_left, Math.Nat.min-le_left, Math.Nat.min-le_right}
pub use Rattle.std.proofs.{lemmas.List.Concat.flat_map-append, lemmas.List.Elements.filter-append, lemmas.List.FromFn.get_or-range_with_len, lemmas.List.FromFn.length-range_with_len, lemmas.List.FromFn.map-range_with_len_more}
pub use Rattle.std.proofs.{lemmas.List.Sums.count_by-le-length, lemmas.List.Sums.length-filter, lemmas.List.Sums.sum_by-append, lemmas.List.Sums.sum_by-cons, lemmas.List.append-nil, lemmas.List.append_assoc, lemmas.List.drop_all}
pub use Rattle.std.proofs.{lemmas.List.drop_more, lemmas.List.flat_map_more, lemmas.List.length-take, lemmas.Option.get_or_from_slice_get, lemmas.Option.slice_get-get_or, lemmas.Option.slice_get_cases}
pub use Rattle.std.proofs.{lemmas.Option.slice_get_within, lemmas.Result.on_ok_weaker}
pub use Rattle.scope_checks.proofs.Checked.{scope_passes}
pub use Rattle.scope_log.proofs.{Displayed.inner_new, Displayed.outermost_new, Displayed.same_info, Displayed.same_inner, Displayed.same_label, Displayed.same_outermost, Numbered.same_moment, Past.IsScope, Past.greater}
pub use Rattle.scope_log.proofs.{Ranges.filter_listed, Staged.same_counts, Staged.same_stage, Staged.same_state, Staged.same_tasks_of}
pub use Rattle.scope_rows.proofs.{FirstUnclosed.next_is, FirstUnclosed.outermost_is, LevelLimit.level_within}
pub use Rattle.scope_rules.proofs.{ChainLaws.chain_law, ClosingScopes.inner_closed, Completions.count_by-cons, Forkings.forked_after, Forkings.forking_row, Forkings.main_unforked, Forkings.opening_row, Forkings.task_there}
pub use Rattle.scope_rules.proofs.{Growing.opening_number, Growing.opening_stays, InnermostEnds.opened_first, InnermostEnds.unclosed_around, Innermosts.HasUnclosed, Innermosts.innermost_later, Innermosts.innermost_none}
pub use Rattle.scope_rules.proofs.{Innermosts.innermost_unclosed, Innermosts.opened_after, Levels.level_by_parent, Levels.parent_inward, Nesting.IsOpened, Nesting.forked_opened, Nesting.legal_before, Nesting.opened_before}
pub use Rattle.scope_rules.proofs.{Nesting.opened_some, Nesting.surrounding_opened, Numbers.range_push, OneEventMore.along, OneEventMore.later, OneEventMore.opening_grows, Openings.and_then_some, Openings.if_some}
pub use Rattle.scope_rules.proofs.{Owing.count_push, Parents.parent_smaller, PassedRows.IsActor, Prefixes.take_at, Prefixes.take_whole, Pushing.fork_number, Pushing.open_number, Stages.running_forked}
pub use Rattle.scope_script.proofs.Retiring.{leaves_alike}
pub use Rattle.serde_json.proofs.FreeTexts.{text_of_value}

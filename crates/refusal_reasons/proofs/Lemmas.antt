-- The lemmas of libraries that the proofs of this crate take, from one place.
pub use Rattle.std.proofs.Common.{◌∙◌, ◌⊎◌, ap, append-nil, append_assoc, arith, cond, inl, inr, length-append, ok_or, refl, rules, subst, sym}
pub use Rattle.std.proofs.lemmas.Bool.{both_ways, cases_lt, cases_order, eq-eqb, eqb-true, false_from_ne_true, lt-ltb, ltb-true, not-true}
pub use Rattle.std.proofs.lemmas.List.{length-take, length-take-le, take-append-drop, take_all}
pub use Rattle.std.proofs.lemmas.Option.{same_Some, slice_get_cases, slice_get_within, some_pair_parts}
pub use Rattle.std.proofs.{Math.Seq.drop-append_seam, lemmas.Bool.Decides.nat_tests, lemmas.Iterator.Adapters.position_from-zero, lemmas.List.FromFn.length-range_with_len}
pub use Rattle.std.proofs.{lemmas.List.Quantifiers.position-Some, lemmas.List.Sums.count_by-le-length, lemmas.List.Sums.length-filter, lemmas.Str.encode_ascii}
pub use Rattle.scope_checks.proofs.Remade.{actor_passes, actor_remade, passes_too, reading_remade, retire_remade, row_remade, scope_passes, scope_remade, task_passes, task_remade, until_remade}
pub use Rattle.scope_rules.proofs.Earlier.{before_of_before, earliest_first, opening_before, opening_since, opening_within, unclosed_before}
pub use Rattle.scope_rules.proofs.{Accepted.lacks_begin, ClosingOwners.live_is_unclosed, InnermostEnds.opened_first, InnermostEnds.unclosed_around, Innermosts.HasUnclosed}
pub use Rattle.scope_rules.proofs.{Innermosts.innermost_unclosed, Innermosts.opened_after, Nesting.IsOpened, Nesting.legal_before, Openings.and_then_some, Openings.if_some, PassedRows.BeginRow}
pub use Rattle.scope_rules.proofs.{PassedRows.begin_close_passed, Prefixes.take_at, Prefixes.take_whole, Searching.earliest_found, Searching.earliest_kept, Searching.earliest_where}
pub use Rattle.script_words.proofs.{FieldSteps.next_none, FieldSteps.next_some, SpelledCommands.said_by_fields}

-- The lemmas of libraries that the proofs of this crate take, from one place.
pub use Rattle.std.proofs.lemmas.List.{append-nil, append_assoc, length-append, length-map, length-take, take-map, take_all}
pub use Rattle.scope_log.proofs.Mapped.{any_mapped, count_mapped, earliest_mapped, last_mapped, map_or_mapped, sum_mapped, then_mapped}
pub use Rattle.std.proofs.{Common.◌∙◌, Common.string_bytes, Common.take, Math.Seq.take-append_seam, lemmas.Bool.Decides.nat_tests, lemmas.List.Folds.list_all-append, lemmas.Option.slice_get-map, lemmas.Option.slice_get_within}
pub use Rattle.scope_log.proofs.{Chained.still_some, Checks.accepts_without, Events.without_followed}
pub use Rattle.scope_rules.proofs.{Accepted.checks_at, Accepted.entry_at, Completions.count_by-cons, Joined.outcome_there, Levels.parent_inward, Nesting.legal_before, Nesting.outer_inward, OneEventMore.joined_grows}
pub use Rattle.scope_rules.proofs.{OneEventMore.opening_same, Prefixes.take_at, Pushing.legal_push, ShiftedChains.cancel_shifted, ShiftedChains.chain_shifted}
pub use Rattle.script_words.proofs.{PrintableText.Shows, PrintableText.decimal_shows, PrintableText.name_shows, PrintableText.value_shows, SpelledLines.line_says_the_command, SpelledText.spelled_shows}
pub use mathlib.Core.Path.{fun_ext}
pub use native.Mathlib.Numerals.{unary_clauses}

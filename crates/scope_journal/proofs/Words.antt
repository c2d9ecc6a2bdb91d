-- The lemmas of libraries that the proofs of this crate take, from one place.
pub use Rattle.std.proofs.lemmas.Bool.{both_ways, cases_order, eq-eqb, eqb-true, le-leb, le-ltb, lt-leb, lt-ltb, ltb-true, ne_eqb}
pub use Rattle.std.proofs.lemmas.List.{append-nil, at_drop_more, drop_at, length-map, map-append, reverse-append, take-append-drop, take_at, take_more}
pub use Rattle.std.proofs.{Common.◌∙◌, Common.ap, Common.arith, Common.rules, Common.sym, Math.Seq.get_or-append_seam, lemmas.Grind.common_steps, lemmas.Grind.get_or_default_zero, lemmas.List.Concat.flat_map-append}
pub use Rattle.std.proofs.{lemmas.List.Elements.filter_map-append, lemmas.List.Sums.count_by-le-length, lemmas.Option.get_or_from_slice_get, lemmas.Option.slice_get-get_or, lemmas.Option.slice_get-map}
pub use Rattle.std.proofs.{lemmas.Option.slice_get_read, lemmas.Option.slice_get_within}
pub use Rattle.scope_log.proofs.{LogCounts.tasks_told, LogSteps.flat_map_more, LogSteps.flat_map_same, MarkPlaces.cancelled_within, MarkPlaces.causeless, MarkPlaces.entries_marked, NewLogs.named_opened, NewLogs.no_entries}
pub use Rattle.scope_rows.proofs.{Altering.altered_length, Keeping.count_same, Places.AreRight, Places.entry_there, Places.opened_numbered, Places.place_within, Places.right_altered, Places.right_pushed}
pub use Rattle.scope_rules.proofs.{Completions.count_by-cons, Innermosts.opened_after, Nesting.IsOpened, OneEventMore.along, OneEventMore.last_event, OneEventMore.opening_same, Owing.count_push, Owing.owed_event}
pub use Rattle.scope_rules.proofs.{Prefixes.get_push, Pushing.before_last, Pushing.before_push, Pushing.legal_push, Pushing.load_push, Pushing.stack_within, Pushing.within_push}

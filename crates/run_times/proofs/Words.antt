-- The lemmas of libraries that the proofs of this crate take, from one place.
pub use Rattle.std.proofs.{Common.sym, lemmas.Bool.eqb-true, lemmas.Bool.le-ltb, lemmas.Bool.lt-ltb, lemmas.List.FromFn.map-range_with_len_more, lemmas.List.take_all, lemmas.Option.slice_get_cases, lemmas.Option.slice_get_read}
pub use Rattle.scope_rules.proofs.{Earlier.task_given, Growing.forking_number, Innermosts.opened_after, Numbers.list_any-push, Openings.and_then_some, Openings.if_some, Prefixes.take_at, Searching.earliest_more}
pub use Rattle.scope_rules.proofs.{Searching.earliest_where}

-- The lemmas of libraries that the proofs of this crate take, from one place.
pub use Rattle.std.proofs.Common.{◌-◌, ◌∙◌, ◌∷◌, Bool, Err, Result, ap, append-nil, arith, cond, false, inl, inr, length-append, refl, subst, suc, sym, true, vec_capacity, zero}
pub use Rattle.std.proofs.lemmas.{Int.ints, Int.to_z-of_z, List.Elements.filter-append, Option.slice_get_past, Option.slice_get_within}
pub use Rattle.scope_journal.proofs.EventRoom.{event_paid}
pub use Rattle.scope_log.proofs.{LogJoins.preview_told, LogPlaces.log_there_where, LogSizes.entries_small, LogTells.entries_there}
pub use Rattle.scope_rules.proofs.Openings.{Searched, searched_all, searched_at, searched_found, searched_other, searched_wrong}
pub use Rattle.scope_rules.proofs.{Accepted.checks_at, ClosingScopes.end_closes_whole, Completions.total_at, Numbers.range_push, Prefixes.get_push, Prefixes.last_of_more, Pushing.fork_number}
pub use Rattle.scope_rules.proofs.{Pushing.load_push, Pushing.open_number, Pushing.stack_within, Stacks.bound_at, Stacks.bound_to_none, Stacks.height_bound, Stacks.height_more, Stacks.pair_more}

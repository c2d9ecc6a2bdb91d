-- The lemmas of libraries that the proofs of this crate take, from one place.
pub use Rattle.std.proofs.lemmas.Bool.{lt-leb}
pub use Rattle.scope_rules.proofs.{Accepted.not_refused, BindingRows.IsForked, Bound.bound_by_height, Bound.some_same, Bound.stack_then, ClosingOwners.live_is_unclosed, Forkings.forked_after, Innermosts.opened_after}
pub use Rattle.scope_rules.proofs.{PassedRows.IsActor, PassedRows.actor_passed, PassedRows.end_close_passed, PassedRows.owner_passed, Pushing.fork_number, Pushing.open_number}

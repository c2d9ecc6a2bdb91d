-- What the definitions of this crate take from the libraries below and from the types of its code, from one place.
pub use Rattle.std.specs.Prelude.{[], ℕ, ◌%◌, ◌&&◌, ◌*◌, ◌++◌, ◌+◌, ◌-◌, ◌/◌, ◌<◌, ◌==◌, ◌^◌, ◌||◌, ◌∷◌, ◌≡◌, ◌≤◌, All, Bool, IfOk, IfSome, List, None, OnOk, Option, Some, cond, count_by}
pub use Rattle.std.specs.Prelude.{false, get_or, if◌then◌else◌, is_none, is_some, length, max, min, nat_eq, nat_le, nat_lt, not, option_map, slice_get, suc, true, unwrap_or, zero}
pub use Rattle.std.specs.{Option.option_and_then, Option.option_map_or, Option.option_or}
pub use Rattle.run_times.specs.Landmarks.{HasFirsts, is_named, named_at}
pub use Rattle.run_times.specs.declared.landmarks.{Firsts.Firsts, Landmark.Landmark}
pub use Rattle.scope_checks.specs.Queries.{cancellation}
pub use Rattle.scope_rules.specs.History.{History, before, forked_count, forking_of, is_fork, is_open, numbered_at, opened_count, opening_of}
pub use Rattle.scope_rules.specs.Scopes.{around, begins_closing, closing_at, forked_in, have_one_opener}
pub use Rattle.scope_rules.specs.{Cancels.own_cancel, Chains.earliest_on, Chains.nearer, Chains.onward, Chains.outwards, Legal.Accepts, Tasks.is_settled}
pub use Rattle.scope_rules.specs.declared.types.events.Event.TheVariants.{BeginClose, Fork, Open}
pub use Rattle.scope_rules.specs.declared.types.{answers.Cause.Cause, answers.State.State, capacity.Limits.Limits, events.Event.Event, records.FirstCancel.FirstCancel, records.Forking.Forking}
pub use Rattle.scope_rules.specs.declared.types.{records.Opening.Opening, records.OwnCancel.OwnCancel}
pub use Rattle.run_picture.specs.declared.{arounds.Nest.Nest, arounds.Owns.Owns, columns.Columns.Columns, columns.Places.Places, columns.ScopeRow.ScopeRow, columns.TaskRow.TaskRow}
pub use Rattle.run_picture.specs.declared.{placed.Forest.Forest, placed.Placed.Placed, rows.Class.Class, rows.Fold.Fold, rows.Fold.TheVariants.Alike, rows.Fold.TheVariants.Below, rows.Fold.TheVariants.Rest}
pub use Rattle.run_picture.specs.declared.{rows.Folded.Folded, rows.Row.Row, view.View.View}
unfoldable pub use Rattle.run_times.specs.Landmarks.{first_place}
unfoldable pub use Rattle.scope_rules.specs.Cancels.{cancelled_at, cancelled_before, cause, first_cancel, own}
unfoldable pub use Rattle.scope_rules.specs.Scopes.{closed, closing, covers, innermost, outer, parent, surrounding}
unfoldable pub use Rattle.scope_rules.specs.{Chains.chain_by, Chains.first_cancel_by, Checks.in_closing, History.forking, History.opening, Legal.Legal, Search.earliest}
unfoldable pub use Rattle.scope_rules.specs.{Search.some_below, Table.row_check, Tasks.stage, Tasks.state}

-- What the definitions of this crate take from the libraries below and from the types of its code, from one place.
pub use Rattle.std.specs.{List.list_any, List.range_with_len, Option.option_and_then, Option.option_map_or, Option.option_or}
pub use Rattle.scope_rules.specs.{History.History, History.before, History.forked_count, History.opened_count, Scopes.ends, Tasks.finishes, Tasks.rejects, Tasks.starts}
pub use Rattle.scope_rules.specs.declared.types.{events.Event.Event, records.Forking.Forking, records.Opening.Opening}
pub use Rattle.run_times.specs.declared.landmarks.{Firsts.Firsts, Landmark.Landmark}
unfoldable pub use Rattle.scope_rules.specs.{History.forking, History.opening, Scopes.closed, Search.earliest, Tasks.finished, Tasks.rejected, Tasks.started}

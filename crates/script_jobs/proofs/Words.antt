-- The lemmas of libraries that the proofs of this crate take, from one place.
pub use Rattle.std.proofs.Common.{◌||◌, ◌∙◌, ap, append-nil, append_assoc, arith, cond, drop, eq-eqb, inl, inr, length-append, lit<, ok_or, refl, rules, subst, suc, sym, take-append-drop, zero}
pub use Rattle.std.proofs.KnownBytes.{Appends-nil, Appends-trans, Consumes-kept, Consumes-nil, Consumes-trans, Keeps-refl}
pub use Rattle.std.proofs.lemmas.Bool.{eqb-true, le-ltb, lt-ltb, ltb-false, ltb-true, ne_eqb, or_parts}
pub use Rattle.std.proofs.lemmas.{Bool.Decides.nat_tests, List.length-take, List.take_all, Map.Lookups.exact_unsigned, Option.same_Some, Result.IfOk-weaker, Result.on_err_weaker, Result.on_ok_weaker}
pub use Rattle.scope_checks.proofs.Checked.{scope_passes}
pub use Rattle.scope_index.proofs.TaskLists.{if_one, tasks_forked, tasks_kept}
pub use Rattle.scope_rules.proofs.{Accepted.checks_at, Growing.opening_stays, Joined.outcome_there, Numbers.list_any-push, PassedRows.owner_passed, Stages.settled_stays}
pub use Rattle.scope_script.proofs.Scripts.{after_append, after_none, reply_none, told_more}
pub use Rattle.scope_script.proofs.Taken.{Taken, all_replied, leaves_rest, stops_taking, takes_line, takes_none}
pub use Rattle.scope_script.proofs.{Growing.grown_kept, Growing.none_kept, Growing.said_kept, Progress.UnderWay, Progress.begins_run, Progress.ends_tallied, Progress.goes_on, Progress.reads_none, Progress.stops_ending, Progress.stops_reading, Progress.stops_within}

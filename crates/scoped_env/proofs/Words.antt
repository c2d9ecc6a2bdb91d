-- The lemmas of libraries that the proofs of this crate take, from one place.
pub use Rattle.std.proofs.Common.{◌∙◌, None, Some, ap, arith, cond, length, refl, rules, subst, sym, take}
pub use Rattle.std.proofs.lemmas.List.{drop-append-le, drop_all, length-set, length-take, reverse-append, take-append-drop, take-append-le, take_all, take_min}
pub use Rattle.std.proofs.{Math.ListN.length-drop, Math.Seq.take-add, Math.Seq.take-append-add, Math.Seq.take-append_seam, lemmas.Bool.Decides.not_from_Decides, lemmas.Bool.Decides.same_from_decides, lemmas.Bool.eq-eqb}
pub use Rattle.std.proofs.{lemmas.Bool.eqb-false, lemmas.Bool.eqb-true, lemmas.Bool.ne_eqb, lemmas.Grind.common_steps, lemmas.Iterator.Adapters.YieldsList-from_rev_slice, lemmas.Iterator.Search.find_from_yields_List}
pub use Rattle.std.proofs.{lemmas.List.Elements.All-cons, lemmas.List.Elements.All-nil, lemmas.List.Folds.find-append, lemmas.Option.same_Some, lemmas.Option.slice_get-get_or, lemmas.Option.slice_get_read}
pub use Rattle.std.proofs.{lemmas.Result.IfOk-weaker}
pub use Rattle.scope_rules.proofs.{Accepted.checks_at, Earlier.forking_within, Forkings.forked_after, Forkings.main_unforked, Growing.forking_stays, Inherited.bindings_of_main, Inherited.bindings_of_task, OneEventMore.along}
pub use Rattle.scope_rules.proofs.{OneEventMore.forking_grows, OneEventMore.forking_other, OneEventMore.forking_same, Owing.count_push, PassedRows.IsActor, PassedRows.actor_passed, Prefixes.take_at, Pushing.before_last}
pub use Rattle.scope_rules.proofs.{Pushing.before_push, SamePairs.same_name_tells, StackEvents.stack_push, StackEvents.stacked_bind, StackEvents.stacked_bind_other, StackEvents.stacked_unbind, StackEvents.stacked_unbind_other}
pub use Rattle.scope_rules.proofs.{Stacks.bound_to_append, Stages.running_forked}

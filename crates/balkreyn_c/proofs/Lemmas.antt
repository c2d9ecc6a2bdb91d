-- The lemmas of libraries that the proofs of this crate take, from one place.
pub use Rattle.std.proofs.Common.{ℤ, ◌∙◌, None, Option, Some, ap, arith, of_z, sym, to_z, w64}
pub use base.Logic.{SProp, emp, ent, ex, ex_i, fst∗, id⊢, never, upd_i, via}
pub use denote.RawPtr.{Ptr, RawPtr, block_ptr, in_a_block, null_ptr, ptr_val, rawptr_Lawful}
pub use denote.Steps.{closes, heard, nothing, only, opens, tied, ties}
pub use denote.Triple.Walked.{Goes-dropped, Goes-ref, Stays, ends_at, says, stay_dropped, stay_ref, walk_Meets, walk_of}
pub use mir.Syntax.{Args, Body, Dict, Fn, a_type, assign, copy, dcons, dnil, impl, named, place, return, rv_opd, seq, tnil}
pub use mir.Val.{Val, WT, has_ty, of_list, vcons, vint, vnil, vptr, vstruct, vunit}
pub use types.ByLocal.{alloc_all, env, free_all, get, get_in, lands_as, lands_last, look_at, pass_all, sets, through}
pub use types.Kit.{ !, ‵, ◌$◌, ◌∵◌, ◌⊛◌, Item, assume, at_ret, await, by, done, drop, each, feq_i, feq_l, fjoin, fjoin3, flt_i, fpack, fpick, frame, fsplit, fsplit3, group, join, keep, later, mean, move, pick, qed, rewrite, show}
pub use types.Kit.{some, split, split3, suffices, use0, use1}
pub use types.Run.{Calls-last, addr, and_then, blocks, enter, exec, first, fld, lit, no_more, of_opd, returns, stop, unit_lit}
pub use Rattle.std.proofs.{Math.Facts.to_z-of_z, ResultValues.and_tt, alloc.Calls.Fits, alloc.Calls.Goes-blank, alloc.Calls.handle_tells, alloc.Calls.token, alloc.Calls.α, lemmas.Bool.eq-eqb, lemmas.Bool.or_right}
pub use Rattle.std.proofs.{lemmas.Fmt.contents_after_writes, lemmas.Int.ints, lemmas.List.drop-drop, lemmas.List.drop-set-lt, lemmas.List.get_or-set_other, lemmas.List.get_or-set_same, lemmas.List.length-set}
pub use Rattle.std.proofs.{raw_atomic.Calls.finds, raw_atomic.Calls.fm, raw_atomic.Calls.found, raw_atomic.Calls.loads, raw_atomic.Calls.seq_cst, raw_atomic.Calls.swaps, raw_atomic.Walks.leaves, raw_atomic.Walks.proved}
pub use Rattle.std_alloc.proofs.{BoxSteps.Form.P, BoxSteps.Form.R, BoxSteps.Form.args, BoxSteps.Form.τ, SendSync.lies, SendSync.quiet}
pub use Rattle.scope_checks.proofs.Checked.{scope_passes}
pub use Rattle.scope_rules.proofs.{Accepted.checks_at, Nesting.IsOpened, NewScopes.scope_passed, OneEventMore.joined_grows, OneEventMore.opening_same}
pub use Rattle.scope_script.proofs.Answered.{accepted, joined, retires}
pub use base.{Fml.Fml, Fml.feq, Fml.flft, Fml.fsep, Fml.ftrue, Fraction.full_share, Shift.Keyless}
pub use contract.{BorrowLft.◌⊑◌, Monad.Fun, Monad.fact, Monad.fact_i, Running.tables}
pub use denote.{Builtin.u64, Exit.no, Exit.yes, Memory.lone, Param.Send.AllSend, Param.Send.IsSend, Param.Send.owning_send, Param.Send.sendable, Param.Send.struct_send, Param.bounded, Plain.uint_Tells, Plain.uint_vals}
pub use denote.{RattleType.RattleType, RattleType.Valss, RattleType.owns, Ref.mut_Tells, Ref.mut_vals, Signature.Slot, Signature.plain, Signature.type_at, Signature.types_at, Struct.Owning.fields, Struct.Owning.shape}
pub use denote.{Struct.Owning.to, Struct.Struct.exits_of, Struct.Struct.within, Struct.Tuple.Tuple, Triple.Call.calls_at, Triple.Call.calls_at_last, Triple.Clauses.Clauses, Triple.Clauses.Ended, Triple.Spec.triple_of}
pub use denote.{Triple.Statement.Contract, Triple.Statement.Triple, Triple.Table.entered}
pub use lib.Dec.{T, lit<}
pub use mathlib.Core.{List.List, List.[], Path.refl, Path.subst}
pub use mir.MapTy.{inst_fn}
pub use prog.{Memory.Memory, Routine.Routine, Wp.Tables}
pub use seplogic.Ra.Ura.{Ura}
pub use sound.WpLaws.{WpFn-mono, fm_of}
pub use types.{Logic.Logic, Logic.sem, Part.agg, Part.sub, Part.whole}
unfoldable pub use contract.Running.{tables_of}
unfoldable pub use prog.Wp.{WpFn}

-- The lemmas of libraries that the proofs of this crate take, from one place.
pub use Rattle.std.proofs.Common.{◌∙◌, ap, inr, length, refl, rules, subst, sym}
pub use Rattle.std.proofs.{KnownBytes.Appends-nil, KnownBytes.Appends-trans, KnownBytes.Consumes-kept, KnownBytes.Consumes-nil, KnownBytes.Consumes-trans, KnownBytes.Keeps-refl, Math.Seq.drop-cons, lemmas.Bool.Decides.nat_tests}
pub use Rattle.std.proofs.{lemmas.Bool.le-ltb, lemmas.Bool.lt-ltb, lemmas.Bool.ltb-false, lemmas.Bool.ltb-true, lemmas.Bool.or_parts, lemmas.List.Elements.All-from_get_or, lemmas.List.Folds.list_any_none, lemmas.List.append-nil}
pub use Rattle.std.proofs.{lemmas.List.drop_more, lemmas.List.get_or-take, lemmas.List.length-take-le, lemmas.List.take-append-drop, lemmas.Option.get_or_from_slice_get, lemmas.Option.slice_get_read}
pub use Rattle.std.proofs.{lemmas.Option.slice_get_within, lemmas.Result.on_ok_weaker}
pub use Rattle.scope_log.proofs.{Alike.answers_alike, Alike.retired_again, Nested.same_innermost}
pub use Rattle.scope_rules.proofs.{Accepted.checks_at, Accepted.not_refused, Accepted.or_left, Accepted.or_right, Prefixes.take_at, Pushing.entry_of_push, Pushing.legal_push}

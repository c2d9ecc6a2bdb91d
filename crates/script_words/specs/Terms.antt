-- What the definitions of this crate take from the libraries below and from the types of its code, from one place.
pub use Rattle.std.specs.List.{filter, flat_map, join_with_byte, list_all, onto_first, position_or_len, slice_split}
pub use Rattle.scope_rules.specs.Texts.{end_text, fault_text, kind_word, stage_word, state_word, task_state_text, task_value_text, value_text}
pub use Rattle.std.specs.{Char.digit_value, Char.is_ascii_digit, Cmp.Derive.both_true, Fmt.decimal, Fmt.digit_glyph, Fmt.digits_onto, Fmt.signed_decimal, Int.IsInRange, Int.Signed.mag, Option.option_or, Prelude.Option}
pub use Rattle.std.specs.{Prelude.Some, Prelude.option_and_then, Str.Parse.digits_value, Str.bytes_eq}
pub use Rattle.arrayvec.specs.declared.array_string.ArrayString.{ArrayString}
pub use Rattle.scope_rules.specs.{Ends.EndValue, NameText.is_inner, Names.text_of, Refusals.line_of, Refusals.word_of}
pub use Rattle.scope_rules.specs.declared.types.{answers.Cause.Cause, answers.CauseKind.CauseKind, answers.Counts.Counts, answers.Effective.Effective, answers.ForkReply.ForkReply, answers.Stage.Stage, answers.State.State}
pub use Rattle.scope_rules.specs.declared.types.{answers.Verdict.Verdict, events.Binding.Binding, events.Event.Event, events.Expiry.Expiry, events.Options.Options, joiners.Policy.Policy, joiners.Policy.TheVariants.Any}
pub use Rattle.scope_rules.specs.declared.types.{joiners.Policy.TheVariants.AwaitAll, joiners.Policy.TheVariants.AwaitOk, joiners.Policy.TheVariants.Until, joiners.Rule.Rule, joiners.Rule.TheVariants.FailuresAtLeast}
pub use Rattle.scope_rules.specs.declared.types.{joiners.Rule.TheVariants.SuccessesAtLeast, joiners.Rule.TheVariants.SumAtLeast, names.Name.Name, outcomes.Outcome.Outcome, outcomes.TaskState.TaskState}
pub use Rattle.scope_rules.specs.declared.types.{outcomes.TaskValue.TaskValue, refusals.Refusal.Refusal, values.Label.Label, values.Value.TheVariants.Num, values.Value.TheVariants.Text, values.Value.Value}
pub use Rattle.script_words.specs.declared.{commands.Command.Command, commands.Line.Line, commands.Query.Query, keywords.Keyword.Keyword, lines.TheConstants.LINE_LIMIT, reply.Reply.Reply, rows.FieldKind.FieldKind}
pub use Rattle.script_words.specs.declared.{rows.OpenWord.OpenWord, rows.Slot.Slot}
unfoldable pub use Rattle.std.specs.Fmt.{digits}
unfoldable pub use Rattle.scope_rules.specs.{NameText.filled_up, NameText.is_name, NameText.is_stored, Texts.outcome_text, Texts.states_text, Texts.values_text}

-- What the definitions of this crate take from the libraries below and from the types of its code, from one place.
pub use Rattle.std.specs.List.{cons_option, filter_map, flat_map, list_any, position_or_len, slice_split}
pub use Rattle.std.specs.Prelude.{[], ℕ, ℤ, ◌&&◌, ◌++◌, ◌+◌, ◌-◌, ◌<ℤ◌, ◌<◌, ◌==◌, ◌||◌, ◌↔◌, ◌∷◌, ◌≡◌, ◌≤ℤ◌, ◌≤◌, ◌⊎◌, Bool, Err, IfErr, IfOk, IfSome, IsSome, IsTrue, List, MatchOption, MatchResult}
pub use Rattle.std.specs.Prelude.{None, Ok, OnErr, OnOk, Option, Result, Some, codes, false, get_or, if◌then◌else◌, is_none, is_some, length, map, nat_eq, nat_le, nat_lt, not, pos, position}
pub use Rattle.std.specs.Prelude.{slice_get, string_bytes, take, true, unwrap_or}
pub use Rattle.std.specs.{Cmp.Derive.both_true, Cmp.Lexicographic.bytes_decides, Cmp.Lexicographic.pointwise, Fmt.HasWritten, Fmt.IsPlainFormatter, Fmt.signed_decimal, Map.lookup}
pub use Rattle.std.specs.{Option.option_and_then, Option.option_or, Option.option_to_list, Ordering.int_eq, Str.bytes_eq}
pub use Rattle.indexmap.specs.IndexMap.{insert_entry}
pub use Rattle.scope_rules.specs.{Ends.EndValue, Ends.FaultValue, Names.same_name, Names.text_of}
pub use Rattle.scope_rules.specs.declared.types.answers.State.TheVariants.{Unavailable}
pub use Rattle.scope_rules.specs.declared.types.{answers.State.State, joiners.Policy.Policy, names.Name.Name, outcomes.Outcome.Outcome, outcomes.TaskState.TaskState, outcomes.TaskValue.TaskValue}
pub use Rattle.scope_rules.specs.declared.types.{values.Fault.Fault, values.Label.Label, values.Value.Value, values.Value.TheVariants.Num, values.Value.TheVariants.Text}
pub use Rattle.script_words.specs.{Lines.begins_comment, Numbers.moment_said, Steps.◌>>=◌}
pub use Rattle.script_words.specs.declared.lines.TheConstants.{LINE_LIMIT}
pub use Rattle.quote_plan.specs.declared.lines.TheConstants.{OFFER_LIMIT, PRICE_LIMIT}
pub use Rattle.quote_plan.specs.declared.{answering.NoAnswer.NoAnswer, answering.NoAnswer.TheVariants.Cancelled, answers.Answer.Answer, answers.Quote.Quote, lines.PlanLine.PlanLine}
pub use Rattle.quote_plan.specs.declared.{lines.PlanLine.TheVariants.BadWord, plans.Mode.Mode, plans.Mode.TheVariants.All, plans.Mode.TheVariants.Best, plans.Mode.TheVariants.First, plans.Offer.Offer}
pub use Rattle.quote_plan.specs.declared.{plans.Offer.TheVariants.Fails, plans.Offer.TheVariants.Price, reading.PlanFault.PlanFault, reading.PlanFault.TheVariants.Memory}
pub use Rattle.quote_plan.specs.declared.{reading.PlanFault.TheVariants.Word, whys.PlanWhy.PlanWhy, whys.PlanWhy.TheVariants.BadName, whys.PlanWhy.TheVariants.NoForm}
unfoldable pub use Rattle.script_words.specs.{Fields.fields, Fields.just_one, Fields.just_three, Fields.just_two, Words.name_said}

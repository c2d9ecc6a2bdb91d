-- What the definitions of this crate take from the libraries below and from the types of its code, from one place.
pub use Rattle.std.specs.Prelude.{[], ℕ, ⊤, ◌&&◌, ◌++◌, ◌==◌, ◌||◌, ◌∷◌, ◌≡◌, ◌≢◌, ◌≤◌, ◌⊎◌, Bool, IfErr, IfOk, IfSome, List, None, Option, Some, codes, false, fold, if◌then◌else◌, map, nat_le, not}
pub use Rattle.std.specs.Prelude.{option_and_then, option_map, slice_get, string_bytes, true, unwrap_or}
pub use Rattle.std.specs.Str.Parse.{AllDigits, IsNumeral, ParsesUnsigned, digits_value, without_leading_plus}
pub use Rattle.std.specs.{Char.digit_value, List.after_first, List.before_first, List.list_all, List.list_any, List.position_or_len, Option.option_map_or, Str.bytes_eq}
pub use Rattle.clap.specs.Simple.{new_app, new_rule, on_top, subcommand_of, with_rule}
pub use Rattle.clap.specs.Words.{App, app_of, first_of, found_of, kind_of, rows_of, rule_of, subcommand_rows_of, with_subcommand}
pub use Rattle.clap.specs.{Faults.fault_of, Faults.is_simple_and_free, Kinds.IsAmong, Kinds.Kinds, Matches.matched_of, Matches.raw_values, Walk.Row, Walk.Rule, Walk.Text, Walk.all_of, Walk.is_empty}
pub use Rattle.clap.specs.declared.builder.action.ArgAction.TheVariants.{Append, SetTrue}
pub use Rattle.clap.specs.declared.{builder.command.Command.TheViews.out-Command, error.kind.ErrorKind.ErrorKind, parser.matches.Found.Found}
pub use Rattle.scope_rules.specs.Names.{text_of}
pub use Rattle.scope_rules.specs.declared.types.capacity.{Limits.Limits, TheConstants.LEVEL_LIMIT, TheConstants.LOAD_LIMIT, TheConstants.SCOPE_LIMIT, TheConstants.TASK_LIMIT}
pub use Rattle.command_line.specs.declared.colors.ColorChoice.TheVariants.{Always, Auto, Never}
pub use Rattle.command_line.specs.declared.faults.LineFault.TheVariants.{Help, Memory, Usage, Version}
pub use Rattle.command_line.specs.declared.help.TheConstants.{CHECK_HELP, DUMP_HELP, GENERATE_HELP, HELP, PAGE_HELP, QUOTE_HELP, REPLAY_HELP, TIMELINE_HELP, TRACE_HELP, TREE_HELP}
pub use Rattle.command_line.specs.declared.lines.Job.TheVariants.{Check, Dump, Generate, Quote, Replay, Timeline, TraceEvents, Tree}
pub use Rattle.command_line.specs.declared.settings.Flag.TheVariants.{Awaited, Explain, Json, Lenient, Quiet, Strict, Trace}
pub use Rattle.command_line.specs.declared.settings.PictureOptions.{PictureOptions}
pub use Rattle.command_line.specs.declared.settings.Setting.TheVariants.{After, Answers, Color, Deadline, Depth, Expect, File, Format, From, Journal, Lines, Load, Notes, Page, Rows, Scope, Scopes}
pub use Rattle.command_line.specs.declared.settings.Setting.TheVariants.{Seed, Since, Tasks, To, TreeAfter, Until, Width}
pub use Rattle.command_line.specs.declared.settings.TheConstants.{DAY_MILLIS, FORMAT_LIMIT, LINES_LIMIT, MOMENT_LIMIT, ROWS_LIMIT, SCOPE_NUMBER_LIMIT, SEED_LIMIT, WIDTH_LIMIT}
pub use Rattle.command_line.specs.declared.{colors.ColorChoice.ColorChoice, faults.LineFault.LineFault, lines.Asked.Asked, lines.CommandLine.CommandLine, lines.Job.Job, lines.ViewOptions.ViewOptions}
pub use Rattle.command_line.specs.declared.{settings.Delay.Delay, settings.DumpFormat.DumpFormat, settings.DumpFormat.TheVariants.First, settings.DumpFormat.TheVariants.Second, settings.Flag.Flag}
pub use Rattle.command_line.specs.declared.{settings.ScriptOptions.ScriptOptions, settings.Setting.Setting, settings.StreamOptions.StreamOptions, settings.TreeOptions.TreeOptions}
unfoldable pub use Rattle.scope_rules.specs.NameText.{is_name}

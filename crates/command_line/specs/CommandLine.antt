-- What the words of a command line say.
use Rattle.std.specs.Prelude.{if◌then◌else◌, ◌==◌, ◌||◌, ◌≡◌}
use Rattle.command_line.specs.Words.{ℕ, After, Answers, Asked, Awaited, Bool, Check, Color, ColorChoice, CommandLine, Deadline, Depth, Dump, DumpFormat, Expect, Explain, File, First}
use Rattle.command_line.specs.Words.{Format, From, Generate, Job, Journal, Json, LOAD_LIMIT, Lenient, Lines, List, None, Notes, Option, Page as page_file, PictureOptions, Quiet, Quote, Replay, Row}
use Rattle.command_line.specs.Words.{Rows, SCOPE_LIMIT, Scope, ScriptOptions, Second, Seed, Setting, Since, Some, StreamOptions, Strict, TASK_LIMIT, Text, Timeline, To, Trace, TraceEvents, Tree}
use Rattle.command_line.specs.Words.{TreeAfter, TreeOptions, Until, ViewOptions, Width, bytes_eq, codes, false, fault_of, is_empty, map, option_and_then, option_map, option_map_or}
use Rattle.command_line.specs.Words.{subcommand_of, true}
use Rattle.command_line.specs.Settings.{NameAndMillis, Numbers, delay_of, given_in, has_in, number_by, numbers_by, numbers_of, texts_in}
use Rattle.command_line.specs.{Application.scopectl, Colors.choice_said, Delays.delays_said, Jobs.job_named}
use Rattle.command_line.specs.declared.lines.Job.TheVariants.{Page}
use Rattle.command_line.specs.declared.lines.CommandLine.TheVariants as line

-- ---- commands

-- how a script is run: the numbers of its realm's limits, and whether it is strict and quiet
pub record ScriptSaid : Type 0 where
  pub numbers : Numbers
  pub strict : Bool
  pub quiet : Bool

-- a job, and what its options say
pub data Said : Type 0 where
  replay : ScriptSaid → (explain trace : Bool) → Said
  show : ScriptSaid → ViewOptions → (lenient explain : Bool) → Said
  quote : (deadline : Option ℕ) (after : List NameAndMillis) (tree_after : Option ℕ) → Said
  generate : (seed lines : Option ℕ) → Said

abbrev pub script_by : List Row → Option ScriptSaid
script_by rows = option_map (λ numbers. record { numbers = numbers; strict = has_in rows Strict; quiet = has_in rows Quiet }) (numbers_by rows)

-- a check is a strict replay in a realm of the greatest limits
abbrev pub checked_script : ScriptSaid
checked_script = record {
  numbers = record { scopes = SCOPE_LIMIT; tasks = TASK_LIMIT; load = LOAD_LIMIT };
  strict = true;
  quiet = true;
}

-- the format that has the number: 2 is the second's, and without a number it is the first
abbrev pub format_said : (number : Option ℕ) → DumpFormat
format_said None = First
format_said (Some n) = if n == 2 then Second else First

-- in which format a dump is written
abbrev pub format_by : List Row → Option DumpFormat
format_by rows = option_map format_said (number_by Format rows)

-- what of a run is drawn
abbrev pub picture_by : List Row → Option PictureOptions
picture_by rows = option_and_then (λ width. option_and_then (λ rows_shown. option_and_then (λ from. option_and_then (λ to. option_and_then (λ since. option_and_then (λ until. option_map (λ scope. record {
  width = width;
  rows = rows_shown;
  from = from;
  to = to;
  since = since;
  until = until;
  scope = scope;
}) (number_by Scope rows)) (number_by Until rows)) (number_by Since rows)) (number_by To rows)) (number_by From rows)) (number_by Rows rows)) (number_by Width rows)

-- what of a tree is shown: what is waited for alone can't be a part of the tree
abbrev pub tree_said : (awaited : Bool) (depth scope : Option ℕ) → Option TreeOptions
tree_said false None None = Some TreeOptions.Whole
tree_said false None (Some s) = Some (TreeOptions.Part None (Some s))
tree_said false (Some n) scope = Some (TreeOptions.Part (Some n) scope)
tree_said true None None = Some TreeOptions.Awaited
tree_said true None (Some s) = None
tree_said true (Some n) scope = None

abbrev pub tree_by : List Row → Option TreeOptions
tree_by rows = option_and_then (λ depth. option_and_then (λ scope. tree_said (has_in rows Awaited) depth scope) (number_by Scope rows)) (number_by Depth rows)

-- what is shown of what a script leaves
abbrev pub show_by : List Row → Option ViewOptions → (lenient : Bool) → Option Said
show_by rows view lenient = option_and_then (λ v. option_map (λ s. show s v lenient (has_in rows Explain)) (script_by rows)) view

abbrev pub quote_by : List Row → Option Said
quote_by rows = option_and_then (λ deadline. option_and_then (λ after. option_map (λ tree_after.
    quote deadline after tree_after) (number_by TreeAfter rows)) (delays_said (texts_in rows After))) (number_by Deadline rows)

abbrev pub generate_by : List Row → Option Said
generate_by rows = option_and_then (λ seed. option_map (λ lines. generate seed lines) (number_by Lines rows)) (number_by Seed rows)

-- what is said of a job by what a parse has of its options
abbrev pub said_by : Job → List Row → Option Said
said_by Replay rows = option_map (λ script. replay script (has_in rows Explain) (has_in rows Trace)) (script_by rows)
said_by Check rows = Some (replay checked_script false false)
said_by Dump rows = show_by rows (option_map (λ f. ViewOptions.Dump f) (format_by rows)) true
said_by Tree rows = show_by rows (option_map (λ t. ViewOptions.Tree t) (tree_by rows)) (has_in rows Lenient)
said_by Timeline rows = show_by rows (option_map (λ p. ViewOptions.Timeline p) (picture_by rows)) (has_in rows Lenient)
said_by TraceEvents rows = show_by rows (Some ViewOptions.TraceEvents) (has_in rows Lenient)
said_by Page rows = show_by rows (Some ViewOptions.Page) (has_in rows Lenient)
said_by Quote rows = quote_by rows
said_by Generate rows = generate_by rows

-- ---- where it reads and writes

-- the texts of the files, whether replies are JSON, whether a journal is checked, and when output has colors
pub record StreamsSaid : Type 0 where
  pub file : Option (List ℕ)
  pub expected : Option (List ℕ)
  pub journal : Option (List ℕ)
  pub page : Option (List ℕ)
  pub json : Bool
  pub checked : Bool
  pub color : ColorChoice

-- the file that is read
abbrev pub file_of : Job → Setting
file_of Check = Notes
file_of _ = File

-- the file with the replies that are expected
abbrev pub expected_of : Job → Setting
expected_of Check = Answers
expected_of _ = Expect

abbrev pub is_check : Job → Bool
is_check Check = true
is_check _ = false

-- a hyphen alone stands for standard input
abbrev pub is_hyphen : Option (List ℕ) → Bool
is_hyphen text = option_map_or (λ t. bytes_eq t (codes "-")) text false

-- only the file that is read may be standard input
abbrev pub streams_by : Job → List Row → Option StreamsSaid
streams_by job rows = option_and_then (λ color. if is_hyphen (given_in rows (expected_of job)) || (is_hyphen (given_in rows Journal) || is_hyphen (given_in rows page_file)) then None else Some (record {
  file = given_in rows (file_of job);
  expected = given_in rows (expected_of job);
  journal = given_in rows Journal;
  page = given_in rows page_file;
  json = has_in rows Json;
  checked = is_check job;
  color = color;
})) (choice_said (given_in rows Color))

-- ---- whole lines

pub record LineSaid : Type 0 where
  pub said : Said
  pub streams : StreamsSaid

-- what the options of a job say, by what a parse has of them
abbrev pub rows_say : Job → List Row → Option LineSaid
rows_say job rows = option_and_then (λ streams. option_map (λ said. record { said = said; streams = streams }) (said_by job rows)) (streams_by job rows)

-- the same of a command that was entered, if its word is that of a job
abbrev pub entered_says : Option (Text × List Row) → Option LineSaid
entered_says entered = option_and_then (λ e. option_and_then (λ job. rows_say job e.1) (job_named e.0)) entered

-- what the words say by `clap`'s parse, if that meets no fault
unfoldable pub line_said : List (List ℕ) → Option LineSaid
line_said words = if is_empty (fault_of scopectl words) then entered_says (subcommand_of scopectl words) else None

abbrev pub script_of : ScriptOptions → ScriptSaid
script_of options = record { numbers = numbers_of options.limits; strict = options.strict; quiet = options.quiet }

abbrev pub said_of : CommandLine → Said
said_of (line.Replay script explain trace) = replay (script_of script) explain trace
said_of (line.Show script view lenient explain) = show (script_of script) view lenient explain
said_of (line.Quote deadline after tree_after) = quote deadline (map delay_of after.items) tree_after
said_of (line.Generate seed lines) = generate seed lines

abbrev pub streams_of : StreamOptions → StreamsSaid
streams_of options = record {
  file = option_map (λ path. path.now) options.file;
  expected = option_map (λ path. path.now) options.expected;
  journal = option_map (λ path. path.now) options.journal;
  page = option_map (λ path. path.now) options.page;
  json = options.json;
  checked = options.checked;
  color = options.color;
}

abbrev pub value_of : Asked → LineSaid
value_of asked = record { said = said_of asked.command; streams = streams_of asked.streams }

-- the words say the command
abbrev pub Says : List (List ℕ) → CommandLine → Type 0
Says words command = option_map (λ line. line.said) (line_said words) ≡ Some (said_of command)

-- the words say no command
abbrev pub SaysNone : List (List ℕ) → Type 0
SaysNone words = line_said words ≡ None

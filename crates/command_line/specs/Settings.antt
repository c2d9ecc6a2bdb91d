-- The options of a job, and what they say.
use Rattle.std.specs.Prelude.{if◌then◌else◌, ◌&&◌, ◌==◌, ◌∷◌}
use Rattle.command_line.specs.Words.{[], ℕ, After, Answers, Awaited, Bool, Color, DAY_MILLIS, Deadline, Delay, Depth, Expect, Explain, FORMAT_LIMIT, File, Flag, Format, From, Journal}
use Rattle.command_line.specs.Words.{Json, LEVEL_LIMIT, LINES_LIMIT, LOAD_LIMIT, Lenient, Limits, Lines, List, Load, MOMENT_LIMIT, None, Notes, Option, Page, Quiet, ROWS_LIMIT, Row, Rows, SCOPE_LIMIT}
use Rattle.command_line.specs.Words.{SCOPE_NUMBER_LIMIT, SEED_LIMIT, Scope, Scopes, Seed, Setting, Since, Some, Strict, TASK_LIMIT, Tasks, To, Trace, TreeAfter, Until, WIDTH_LIMIT, Width, after_first}
use Rattle.command_line.specs.Words.{all_of, before_first, bytes_eq, codes, digits_value, false, first_of, is_name, list_all, nat_le, not, option_and_then, option_map, option_map_or}
use Rattle.command_line.specs.Words.{text_of, unwrap_or}

-- an option's name, without its hyphens; a file that stands alone has one too, by which a parse knows it
abbrev pub name_of : Setting → List ℕ
name_of Scopes = codes "scopes"
name_of Tasks = codes "tasks"
name_of Load = codes "load"
name_of Deadline = codes "deadline"
name_of After = codes "after"
name_of TreeAfter = codes "tree-after"
name_of Seed = codes "seed"
name_of Lines = codes "lines"
name_of Width = codes "width"
name_of Rows = codes "rows"
name_of From = codes "from"
name_of To = codes "to"
name_of Since = codes "since"
name_of Until = codes "until"
name_of Scope = codes "scope"
name_of Depth = codes "depth"
name_of Format = codes "format"
name_of Expect = codes "expect"
name_of Journal = codes "journal"
name_of Page = codes "page"
name_of Color = codes "color"
name_of File = codes "FILE"
name_of Notes = codes "JOURNAL"
name_of Answers = codes "ANSWERS"

-- the name of an option that has no text, without its hyphens
abbrev pub flag_name : Flag → List ℕ
flag_name Strict = codes "strict"
flag_name Explain = codes "explain"
flag_name Trace = codes "trace"
flag_name Quiet = codes "quiet"
flag_name Lenient = codes "lenient"
flag_name Awaited = codes "awaited"
flag_name Json = codes "json"

-- the text that a parse has for an option
abbrev pub given_in : List Row → Setting → Option (List ℕ)
given_in rows setting = first_of (name_of setting) rows

-- all texts that a parse has for an option
abbrev pub texts_in : List Row → Setting → List (List ℕ)
texts_in rows setting = unwrap_or (all_of (name_of setting) rows) []

-- whether an option without a text was given: a parse has the text `true` for it then
abbrev pub has_in : List Row → Flag → Bool
has_in rows flag = option_map_or (λ text. bytes_eq text (codes "true")) (first_of (flag_name flag) rows) false

-- the greatest number that an option can say; one that says none has 0
abbrev pub greatest_of : Setting → ℕ
greatest_of Scopes = SCOPE_LIMIT
greatest_of Tasks = TASK_LIMIT
greatest_of Load = LOAD_LIMIT
greatest_of Deadline = DAY_MILLIS
greatest_of After = DAY_MILLIS
greatest_of TreeAfter = DAY_MILLIS
greatest_of Seed = SEED_LIMIT
greatest_of Lines = LINES_LIMIT
greatest_of Width = WIDTH_LIMIT
greatest_of Rows = ROWS_LIMIT
greatest_of From = LOAD_LIMIT
greatest_of To = LOAD_LIMIT
greatest_of Since = MOMENT_LIMIT
greatest_of Until = MOMENT_LIMIT
greatest_of Scope = SCOPE_NUMBER_LIMIT
greatest_of Depth = LEVEL_LIMIT
greatest_of Format = FORMAT_LIMIT
greatest_of _ = 0

abbrev pub is_digit : ℕ → Bool
is_digit byte = nat_le 48 byte && nat_le byte 57

-- the text is of decimal digits, of which the first is not 0
abbrev pub is_plain : List ℕ → Bool
is_plain [] = false
is_plain (first ∷ rest) = not (first == 48) && list_all is_digit (first ∷ rest)

-- the number that a text says, if it says one from 1 to the greatest
unfoldable pub plain_number : ℕ → List ℕ → Option ℕ
plain_number greatest text =
    let number = digits_value 10 text in
    if is_plain text && (nat_le 1 number && nat_le number greatest) then Some number else None

-- ---- the limits of a realm

-- the limit whose option was given with a text; where it was not given, the greatest
abbrev pub setting_number : Setting → Option (List ℕ) → Option ℕ
setting_number setting given =
    option_map_or (plain_number (greatest_of setting)) given (Some (greatest_of setting))

-- the numbers of all limits
pub record Numbers : Type 0 where
  pub scopes : ℕ
  pub tasks : ℕ
  pub load : ℕ

abbrev pub numbers_of : Limits → Numbers
numbers_of limits = record { scopes = limits.scopes; tasks = limits.tasks; load = limits.load }

-- the numbers of limits by what a parse has of their options
abbrev pub numbers_by : List Row → Option Numbers
numbers_by rows = option_and_then (λ scopes. option_and_then (λ tasks. option_map (λ load. record {
  scopes = scopes;
  tasks = tasks;
  load = load;
}) (setting_number Load (given_in rows Load))) (setting_number Tasks (given_in rows Tasks))) (setting_number Scopes (given_in rows Scopes))

-- ---- options that may be left out

-- what an option says that may be left out: nothing where it was not given, else what its text says
abbrev pub if_given : {X : Type 0} → (List ℕ → Option X) → Option (List ℕ) → Option (Option X)
if_given said None = Some None
if_given said (Some text) = option_map (λ x. Some x) (said text)

-- the number whose option was given with a text, or was not given
abbrev pub number_by : Setting → List Row → Option (Option ℕ)
number_by setting rows = if_given (plain_number (greatest_of setting)) (given_in rows setting)

-- the text of a name, and a number of milliseconds
pub record NameAndMillis : Type 0 where
  pub name : List ℕ
  pub millis : ℕ

abbrev pub delay_of : Delay → NameAndMillis
delay_of delay = record { name = text_of delay.name; millis = delay.millis }

-- the byte `=`
abbrev pub is_equals : ℕ → Bool
is_equals byte = byte == 61

-- what a text NAME=MS says, if it says that: a name before its first `=`, and after it a number from 1 to
-- the greatest (if there is no `=` nothing stands after it, which is no number)
unfoldable pub delay_said : List ℕ → Option NameAndMillis
delay_said text =
    let name = before_first is_equals text in
    if is_name name then option_map (λ millis. record {
      name = name;
      millis = millis;
    }) (plain_number (greatest_of After) (after_first is_equals text)) else None

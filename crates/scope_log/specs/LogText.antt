-- The text of a log: a line for each entry, in the words of the script.
use Rattle.std.specs.Prelude.{[], ℕ, ◌++◌, ◌∷◌, Bool, Err, List, None, Ok, Option, Some, codes, false, true}
use Rattle.scope_log.specs.Words.{All, Any, AwaitAll, AwaitOk, EndValue, Expiry, Fail, FailuresAtLeast, LogEntry, MoveOn, Options, Policy, SuccessesAtLeast, SumAtLeast, Until, decimal, fault_text, flat_map, kind_word}
use Rattle.scope_log.specs.Words.{signed_decimal, text_of, value_text}
use Rattle.scope_log.specs.Log.{LogValue}
use Rattle.scope_log.specs.declared.entries.LogEntry.TheVariants as entry

-- the joiner of a scope
abbrev pub joiner_text : Policy → List ℕ
joiner_text All = codes "all"
joiner_text Any = codes "any"
joiner_text AwaitAll = codes "await"
joiner_text AwaitOk = codes "await-ok"
joiner_text (Until (FailuresAtLeast n)) = codes "until:fail:" ++ decimal n
joiner_text (Until (SuccessesAtLeast n)) = codes "until:ok:" ++ decimal n
joiner_text (Until (SumAtLeast n)) = codes "until:sum:" ++ signed_decimal n

-- what a scope is opened with beside its joiner, each after a space
abbrev pub limit_text : Option ℕ → List ℕ
limit_text None = []
limit_text (Some moment) = codes " deadline=" ++ decimal moment

abbrev pub expiry_text : Expiry → List ℕ
expiry_text Fail = []
expiry_text MoveOn = codes " move-on"

abbrev pub shield_text : Bool → List ℕ
shield_text false = []
shield_text true = codes " shield"

abbrev pub options_text : Options → List ℕ
options_text o = limit_text o.deadline ++ expiry_text o.expiry ++ shield_text o.shield

-- how a task ended: `ok K VALUE` or `fail K NAME`
abbrev pub end_line : ℕ → EndValue → List ℕ
end_line k (Ok value) = codes "ok " ++ decimal k ++ codes " " ++ value_text value
end_line k (Err fault) = codes "fail " ++ decimal k ++ codes " " ++ fault_text fault

abbrev pub move_line : ℕ → Option ℕ → List ℕ
move_line s None = codes "move " ++ decimal s ++ codes " never"
move_line s (Some moment) = codes "move " ++ decimal s ++ codes " " ++ decimal moment

-- the line of an entry of scope s: that of its command, with the number that a fork gave, and
-- `cancelled P KIND` for the mark
unfoldable pub entry_line : ℕ → LogEntry → List ℕ
entry_line s (entry.Open actor policy options) = codes "open " ++ decimal actor ++ codes " " ++ joiner_text policy ++ options_text options
entry_line s (entry.Fork task actor label) = codes "fork " ++ decimal actor ++ codes " " ++ decimal s ++ codes " " ++ text_of label.name ++ codes " task " ++ decimal task
entry_line s (entry.Reject task) = codes "reject " ++ decimal task
entry_line s (entry.Start task) = codes "start " ++ decimal task
entry_line s (entry.Finish task end) = end_line task end
entry_line s entry.Cancel = codes "cancel " ++ decimal s
entry_line s (entry.Move deadline) = move_line s deadline
entry_line s (entry.Join actor) = codes "join " ++ decimal actor ++ codes " " ++ decimal s
entry_line s (entry.BeginClose actor) = codes "close " ++ decimal actor ++ codes " " ++ decimal s
entry_line s (entry.EndClose actor) = codes "closed " ++ decimal actor ++ codes " " ++ decimal s
entry_line s (entry.Cancelled cause) = codes "cancelled " ++ decimal cause.scope ++ codes " " ++ kind_word cause.kind

-- the lines of the entries, each ended by a line feed
unfoldable pub lines_text : ℕ → List LogEntry → List ℕ
lines_text s es = flat_map (λ e. entry_line s e ++ 10 ∷ []) es

-- the text of a log
abbrev pub log_text : LogValue → List ℕ
log_text l = lines_text l.scope l.entries

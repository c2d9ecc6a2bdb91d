-- How many lines of a script are refused.
use Rattle.std.specs.Prelude.{[], ℕ, ◌+◌, ◌==◌, ◌∷◌, Bool, List, false, if◌then◌else◌, true}
use Rattle.script_words.specs.declared.commands.Line.TheVariants.{Command}
use Rattle.scope_script.specs.Terms.{BadWord, Limits, Line, Realm, Refused, Reply, Silent, Tally, line_said, starting, the_start}
use Rattle.scope_script.specs.{Cutting.begun_line, Cutting.ended_lines, Replying.reply_to, Sessions.realm_after_line}

-- none so far
abbrev pub no_refusals : Tally
no_refusals = record { refused = 0; bad_words = 0 }

-- a count that stops at 2^64 - 1
abbrev pub one_more : ℕ → ℕ
one_more n = if n == 18446744073709551615 then n else n + 1

abbrev pub is_refused : Reply → Bool
is_refused (Refused refusal) = true
is_refused _ = false

-- a line more says no command
abbrev pub with_bad_word : Tally → Tally
with_bad_word t = record { refused = one_more t.refused; bad_words = one_more t.bad_words }

-- a command more was answered this
abbrev pub with_reply : Tally → Reply → Tally
with_reply t said = if is_refused said then record { refused = one_more t.refused; bad_words = t.bad_words } else t

-- with a line more, in the realm before it
unfoldable pub tally_after_line : Tally → Realm → Line → Tally
tally_after_line t realm Silent = t
tally_after_line t realm BadWord = with_bad_word t
tally_after_line t realm (Command command) = with_reply t (reply_to realm command)

-- with more lines in turn
unfoldable pub tally_after_lines : Tally → Realm → List (List ℕ) → Tally
tally_after_lines t realm [] = t
tally_after_lines t realm (line ∷ lines) = tally_after_lines (tally_after_line t realm (line_said line)) (realm_after_line realm (line_said line)) lines

-- with a last line that no line feed ends; no bytes are no line
abbrev pub with_cut : Tally → List ℕ → Tally
with_cut t [] = t
with_cut t (b ∷ line) = with_bad_word t

-- of a whole script, on a fresh realm of these limits
unfoldable pub tally_of_script : Limits → List ℕ → Tally
tally_of_script L bytes = with_cut (tally_after_lines no_refusals (starting L the_start) (ended_lines [] bytes)) (begun_line [] bytes)

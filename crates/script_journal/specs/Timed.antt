-- The script of a history with the times of its events.
use Rattle.std.specs.Prelude.{[], ℕ, ◌++◌, ◌==◌, ◌∷◌, List, None, Option, Some, codes, cond, length, slice_get, suc, zero}
use Rattle.script_journal.specs.Words.{Event, History, Origin, decimal, flat_map, range_with_len}
use Rattle.script_journal.specs.Script.{binds_text, event_line, moment_text, script_text}

-- the comment that says a time, in milliseconds
unfoldable pub at_text : Option ℕ → List ℕ
at_text None = []
at_text (Some at) = codes "# at " ++ decimal at ++ 10 ∷ []

-- the time, if it is not the one before
abbrev pub unlike : ℕ → Option ℕ → Option ℕ
unlike at None = Some at
unlike at (Some before) = cond (at == before) None (Some at)

abbrev pub unlike_before : List ℕ → ℕ → ℕ → Option ℕ
unlike_before times zero at = Some at
unlike_before times (suc i) at = unlike at (slice_get times i)

abbrev pub new_time_of : List ℕ → ℕ → Option ℕ → Option ℕ
new_time_of times i None = None
new_time_of times i (Some at) = unlike_before times i at

-- the time of the event at a place, if it is known and not that of the event before it
unfoldable pub new_time : List ℕ → ℕ → Option ℕ
new_time times i = new_time_of times i (slice_get times i)

-- the command of an event, if there is one
abbrev pub line_of : Origin → Option Event → List ℕ
line_of base None = []
line_of base (Some e) = event_line base e ++ 10 ∷ []

-- what the script says of the event at a place: its time, if that is another than the last, and its command
unfoldable pub timed_line : Origin → List Event → List ℕ → ℕ → List ℕ
timed_line base events times i = at_text (new_time times i) ++ line_of base (slice_get events i)

abbrev pub timed_lines : Origin → List Event → List ℕ → List ℕ
timed_lines base events times = flat_map (timed_line base events times) (range_with_len 0 (length events))

-- the script of the history with the times of its events, and behind it the time of the look
abbrev pub timed_text : History → List ℕ → ℕ → List ℕ
timed_text h times now = (moment_text h.base.moment ++ binds_text h.base.binds ++ timed_lines h.base h.events times) ++ at_text (Some now)

-- the first text is the second, with comments that say times before some of its lines and behind the last
pub data WithTimes : List ℕ → List ℕ → Type 0 where
  ended : WithTimes [] []
  time : (at : ℕ) (timed text : List ℕ) → WithTimes timed text → WithTimes (at_text (Some at) ++ timed) text
  line : (command timed text : List ℕ) → WithTimes timed text → WithTimes (command ++ 10 ∷ timed) (command ++ 10 ∷ text)

-- the script with times is the script, but for comments
abbrev pub TimesAreComments : Type 0
TimesAreComments = (h : History) (times : List ℕ) (now : ℕ) → WithTimes (timed_text h times now) (script_text h)

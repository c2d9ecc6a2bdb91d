-- What a journal leaves when it is run as a script.
use Rattle.std.specs.Prelude.{[], ℕ, ◌+◌, ◌<◌, ◌^◌, ◌∷◌, ◌≡◌, ◌≤◌, List, Some, length, slice_get, suc, zero}
use Rattle.script_journal.specs.Words.{Binding, Do, Event, HasWords, History, IsValue, Legal, Limits, Origin, begun_line, ended_lines, no_refusals, realm_of_script, tally_of_script, the_start, without_due, without_dues}
use Rattle.script_journal.specs.Script.{script_text}

-- the numbers of the event fit their types
abbrev pub Fits : Event → Type 0
Fits e = HasWords (Do (without_due e))

-- those of all the events do
abbrev pub AllFit : List Event → Type 0
AllFit es = (i : ℕ) (e : Event) → slice_get es i ≡ Some e → Fits e

-- a realm of the limits may begin with the base, and its numbers fit their types
pub record BaseFits (L : Limits) (base : Origin) : Type 0 where
  pub some_load : 1 ≤ L.load
  pub loaded : length base.binds ≤ L.load
  pub moment : base.moment < 2 ^ 64
  pub values : (i : ℕ) (pair : Binding) → slice_get base.binds i ≡ Some pair → IsValue pair.value

-- how many lines a script begins with, to come to the moment that the history began with: a tick and a retirement
abbrev pub moment_lines : ℕ → ℕ
moment_lines zero = 0
moment_lines (suc n) = 2

-- and to main's bindings: a line for each, and a retirement
abbrev pub bind_lines : List Binding → ℕ
bind_lines [] = 0
bind_lines (pair ∷ pairs) = length (pair ∷ pairs) + 1

abbrev pub beginning_lines : Origin → ℕ
beginning_lines base = moment_lines base.moment + bind_lines base.binds

-- the text is a script that brings a fresh realm of these limits to the history: no line of it is refused, each line is
-- ended, and it has a line for each event, behind those that come to the base
pub record RunsTo (L : Limits) (text : List ℕ) (h : History) : Type 0 where
  pub left : realm_of_script L text ≡ record { limits = L; history = h }
  pub unrefused : tally_of_script L text ≡ no_refusals
  pub lines : length (ended_lines [] text) ≡ beginning_lines h.base + length h.events
  pub ended : begun_line [] text ≡ []

-- the script of a legal history that began fresh brings a fresh realm to that history again, with labels that expect
-- no end: a script says none
abbrev pub JournalIsAScript : Type 0
JournalIsAScript = (L : Limits) (h : History) → h.base ≡ the_start → Legal L h → AllFit h.events → RunsTo L (script_text h) (without_dues h)

-- the script of what it brings the realm to is that very script
abbrev pub JournalStays : Type 0
JournalStays = (h : History) → script_text (without_dues h) ≡ script_text h

-- so two such histories with one script are one history, but for the ends that labels expect
abbrev pub JournalTellsAll : Type 0
JournalTellsAll = (L : Limits) (g h : History) → g.base ≡ the_start → Legal L g → AllFit g.events → h.base ≡ the_start → Legal L h → AllFit h.events → script_text g ≡ script_text h → without_dues g ≡ without_dues h

-- the script of any history has the lines that come to its base, and one for each event, and each is ended
abbrev pub NoLineIsLost : Type 0
NoLineIsLost = (h : History) → (length (ended_lines [] (script_text h)) ≡ beginning_lines h.base + length h.events) × (begun_line [] (script_text h) ≡ [])

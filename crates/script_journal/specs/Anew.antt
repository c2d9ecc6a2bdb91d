-- A history behind a retirement, with scopes and tasks counted from the retirement on.
use Rattle.std.specs.Prelude.{◌≡◌, map}
use Rattle.script_journal.specs.Words.{History, Legal, Limits, without_dues}
use Rattle.script_journal.specs.{Journals.AllFit, Journals.BaseFits, Journals.RunsTo, Script.renumbered, Script.script_text}

-- the same history, if no scope or task was numbered before
abbrev pub anew : History → History
anew h = record {
  base = record { moment = h.base.moment; scopes = 0; tasks = 0; binds = h.base.binds };
  events = map (renumbered h.base) h.events;
}

-- what was numbered before decides nothing
abbrev pub NumbersDecideNothing : Type 0
NumbersDecideNothing = (L : Limits) (h : History) → Legal L h → Legal L (anew h)

-- the script of a history is that of the same, if nothing was numbered before
abbrev pub JournalCountsAnew : Type 0
JournalCountsAnew = (h : History) → script_text h ≡ script_text (anew h)

-- and that of a legal history brings a fresh realm of the same limits there, with labels that expect no end
abbrev pub JournalBringsAnew : Type 0
JournalBringsAnew = (L : Limits) (h : History) → Legal L h → BaseFits L h.base → AllFit h.events → RunsTo L (script_text h) (without_dues (anew h))

-- What the log of a scope shows of a task that got a thread.
use Rattle.std.specs.Prelude.{[], ℕ, ◌||◌, ◌∷◌, ◌≡◌, Bool, Some, true}
use Rattle.realm_core.specs.Words.{EndValue, Ending, History, Legal, Limits, LogEntry, LogValue, TicketValue, end_in, ending, filter, finishes_task, is_task_of, log, starts_task}
use Rattle.scope_log.specs.declared.entries.LogEntry.TheVariants as entry

-- the entry is the start of task k, or its finish
abbrev pub runs_task : ℕ → LogEntry → Bool
runs_task k x = starts_task k x || finishes_task k x

-- of task k the log has its start and then its finish with this end, each once
abbrev pub ShowsRun : LogValue → ℕ → EndValue → Type 0
ShowsRun l k end = filter (runs_task k) l.entries ≡ entry.Start k ∷ entry.Finish k end ∷ []

-- the log of a scope shows so each task of it that has ended
abbrev pub LogsShowRuns : Type 0
LogsShowRuns = (L : Limits) (h : History) (s k : ℕ) (l : LogValue) (x : Ending) → Legal L h → log h s ≡ Some l → is_task_of h s k ≡ true → ending h k ≡ Some x → ShowsRun l k x.end

-- the log of the ticket's scope shows its task so, with the ticket's end
pub record IsShown (h : History) (t : TicketValue) : Type 0 where
  pub in_log : LogValue
  pub logged : log h t.scope ≡ Some in_log
  pub end : EndValue
  pub ended : end_in t.task t.seen ≡ Some end
  pub run : ShowsRun in_log t.task end

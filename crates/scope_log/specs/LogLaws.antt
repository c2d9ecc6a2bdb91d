-- What holds of the log of each scope of a legal history: how it goes on, and that it tells what the
-- history says of the scope.
use Rattle.std.specs.Prelude.{[], ℕ, ◌++◌, ◌+◌, ◌-◌, ◌∷◌, ◌≡◌, ◌≤◌, List, None, Some, length, true}
use Rattle.scope_log.specs.Words.{Accepts, Cause, Event, History, Join, Legal, Limits, LogEntry, Opening, cancelled_at, cause, completions, counts, filter, filter_map, followed, is_task_of, opening, outcome, outcome_of}
use Rattle.scope_log.specs.Words.{range_with_len, ready, settled, stage, state, task_numbers}
use Rattle.scope_log.specs.{LocalForms.answer_in, LocalForms.cause_in, LocalForms.completions_in, LocalForms.counts_in, LocalForms.outcome_in, LocalForms.ready_in, LocalForms.settled_in, LocalForms.stage_in, LocalForms.state_in}
use Rattle.scope_log.specs.{LocalForms.tasks_in, LocalForms.with_join, Log.LogValue, Log.entries, Log.entries_next, Log.entry_at, Log.log}
use Rattle.scope_log.specs.declared.entries.LogEntry.TheVariants as entry

-- how the log of scope s goes on with the event, the next after h
pub record LogGoesOn (h : History) (e : Event) (s : ℕ) : Type 0 where
  -- the entries stay, and then comes what the event adds
  pub grows : entries (followed h e) s ≡ entries h s ++ entries_next h e s
  -- a scope that isn't opened yet has none
  pub begins : opening h s ≡ None → entries h s ≡ []
  -- the rest of a log stays
  pub kept : (l : LogValue) → log h s ≡ Some l → log (followed h e) s ≡ Some (record l { entries = l.entries ++ entries_next h e s })

-- an accepted event goes on with the log of each scope
abbrev pub LogGrows : Type 0
LogGrows = (L : Limits) (h : History) (e : Event) (s : ℕ) → Legal L h → Accepts L h e → LogGoesOn h e s

-- what holds of the log of each scope of a legal history
abbrev pub OfEachLog : (History → ℕ → LogValue → Type 0) → Type 0
OfEachLog P = (L : Limits) (h : History) (s : ℕ) (l : LogValue) → Legal L h → log h s ≡ Some l → P h s l

-- the entries of the events at n places, from place a on
abbrev pub entries_from : History → ℕ → ℕ → ℕ → List LogEntry
entries_from h s a n = filter_map (entry_at h s) (range_with_len a n)

-- where the mark is in the entries of scope s
pub record IsMarked (h : History) (s : ℕ) (es : List LogEntry) : Type 0 where
  -- of a scope that was cancelled: after the entries up to the event by which it became so, and before
  -- all later ones
  pub cancelled : (at : ℕ) (c : Cause) → cancelled_at h s ≡ Some at → cause h s ≡ Some c → es ≡ entries_from h s 0 (at + 1) ++ entry.Cancelled c ∷ entries_from h s (at + 1) (length h.events - (at + 1))
  -- one that wasn't has none
  pub live : cancelled_at h s ≡ None → es ≡ entries_from h s 0 (length h.events)

-- the mark of each log is where its scope became cancelled
abbrev pub LogsAreMarked : Type 0
LogsAreMarked = OfEachLog (λ h s l. IsMarked h s l.entries)

-- a log has one entry more than there are events, at the most
abbrev pub LogsAreShort : Type 0
LogsAreShort = OfEachLog (λ h s l. length l.entries ≤ length h.events + 1)

-- a log tells why its scope is cancelled
abbrev pub LogTellsCause : Type 0
LogTellsCause = OfEachLog (λ h s l. cause_in l.entries ≡ cause h s)

-- it has the tasks of the scope, in fork order
abbrev pub LogTellsTasks : Type 0
LogTellsTasks = OfEachLog (λ h s l. tasks_in l.entries ≡ filter (is_task_of h s) (task_numbers h))

-- it tells the stage of each task of the scope
abbrev pub LogTellsStages : Type 0
LogTellsStages = OfEachLog (λ h s l. (k : ℕ) → is_task_of h s k ≡ true → stage_in l.entries k ≡ stage h k)

-- and the state of each
abbrev pub LogTellsStates : Type 0
LogTellsStates = OfEachLog (λ h s l. (k : ℕ) → is_task_of h s k ≡ true → state_in l.entries k ≡ state h k)

-- it tells how many tasks of the scope are at each stage
abbrev pub LogTellsCounts : Type 0
LogTellsCounts = OfEachLog (λ h s l. counts_in l.entries ≡ counts h s)

-- whether no task of the scope waits or runs
abbrev pub LogTellsSettled : Type 0
LogTellsSettled = OfEachLog (λ h s l. settled_in l.entries ≡ settled h s)

-- whether the scope may be joined
abbrev pub LogTellsReady : Type 0
LogTellsReady = OfEachLog (λ h s l. ready_in l.entries ≡ ready h s)

-- the completions of the scope, in order
abbrev pub LogTellsCompletions : Type 0
LogTellsCompletions = OfEachLog (λ h s l. completions_in l.entries ≡ completions h s)

-- what a join of the scope would answer next
abbrev pub LogTellsNext : Type 0
LogTellsNext = OfEachLog (λ h s l. (o : Opening) → opening h s ≡ Some o → answer_in l ≡ outcome_of h s o)

-- and what its join answered
abbrev pub LogTellsOutcome : Type 0
LogTellsOutcome = OfEachLog (λ h s l. outcome_in l ≡ outcome h s)

-- what an accepted join of scope s by the actor makes of the scope's log
pub record JoinGoesBy (h : History) (a s : ℕ) (l : LogValue) : Type 0 where
  -- it answers what the log told
  pub answers : outcome (followed h (Join a s)) s ≡ Some (answer_in l)
  -- and adds itself to it, and nothing else
  pub adds : log (followed h (Join a s)) s ≡ Some (with_join a l)

-- a join goes by the log of its scope
abbrev pub JoinsGoByLogs : Type 0
JoinsGoByLogs = (L : Limits) (h : History) (a s : ℕ) (l : LogValue) → Legal L h → Accepts L h (Join a s) → log h s ≡ Some l → JoinGoesBy h a s l

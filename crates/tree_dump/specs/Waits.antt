-- In which calls actors wait, and how long.
use Rattle.std.specs.Prelude.{[], ℕ, ◌++◌, ◌-◌, List, None, Option, Some, codes, option_map}
use Rattle.tree_dump.specs.Terms.{Close, CurrentWait, History, Join, NextDone, Permit, Receive, Ring, Running, Send, Sleep, Stage, Stop, WaitCall, Waits}
use Rattle.tree_dump.specs.Ages.{Clock, reading_in, span_text}

-- the same readings, and these waits
abbrev pub with_waits : Clock → Waits → Clock
with_waits c w = record c { main = w.main; waits = w.tasks.now }

abbrev pub found_wait : Option (Option CurrentWait) → Option CurrentWait
found_wait None = None
found_wait (Some wait) = wait

-- in which call task k waits, if it runs, and that is known
abbrev pub task_wait : Clock → History → ℕ → Stage → Option CurrentWait
task_wait c h k Running = found_wait (reading_in c.waits h.base.tasks k)
task_wait c h k _ = None

-- the call, as who makes it writes it
abbrev pub call_word : WaitCall → List ℕ
call_word Join = codes "join"
call_word Close = codes "close"
call_word Sleep = codes "sleep"
call_word Receive = codes "receive"
call_word Send = codes "send"
call_word Permit = codes "permit"
call_word NextDone = codes "next_done"
call_word Stop = codes "stop"
call_word Ring = codes "wait_rung"

-- how long it lasts by the last reading of a clock: it is never negative
abbrev pub waited : Option ℕ → CurrentWait → Option ℕ
waited now wait = option_map (λ n. n - wait.since) now

-- these words, and in which call somebody waits, and how long; nothing if none does
unfoldable pub wait_text : List ℕ → Option ℕ → Option CurrentWait → List ℕ
wait_text words now None = []
wait_text words now (Some wait) = words ++ codes "waits in " ++ call_word wait.call ++ span_text (codes " for ") (waited now wait)

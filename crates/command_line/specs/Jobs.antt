-- The jobs: the word of each, and its options.
use Rattle.std.specs.Prelude.{if◌then◌else◌, ◌∷◌}
use Rattle.command_line.specs.Words.{[], ℕ, After, Answers, Awaited, Check, Color, Deadline, Depth, Dump, Expect, Explain, File, Flag, Format, From, Generate, Job, Journal, Json, Lenient, Lines}
use Rattle.command_line.specs.Words.{List, Load, None, Notes, Option, Page as page_file, Quiet, Quote, Replay, Rows, Scope, Scopes, Seed, Setting, Since, Some, Strict, Tasks, Timeline, To, Trace}
use Rattle.command_line.specs.Words.{TraceEvents, Tree, TreeAfter, Until, Width, bytes_eq, codes}
use Rattle.command_line.specs.declared.lines.Job.TheVariants.{Page}

-- the jobs, in the order of help
abbrev pub all_jobs : List Job
all_jobs = Replay ∷ Check ∷ Dump ∷ Tree ∷ Timeline ∷ TraceEvents ∷ Page ∷ Quote ∷ Generate ∷ []

-- the word of a job
abbrev pub command_word : Job → List ℕ
command_word Replay = codes "replay"
command_word Check = codes "check"
command_word Dump = codes "dump"
command_word Tree = codes "tree"
command_word Timeline = codes "timeline"
command_word TraceEvents = codes "trace"
command_word Page = codes "page"
command_word Quote = codes "quote"
command_word Generate = codes "generate"

-- the job that has this word
unfoldable pub job_named : List ℕ → Option Job
job_named word = if bytes_eq word (command_word Replay) then Some Replay
    else (if bytes_eq word (command_word Check) then Some Check
    else (if bytes_eq word (command_word Dump) then Some Dump
    else (if bytes_eq word (command_word Tree) then Some Tree
    else (if bytes_eq word (command_word Timeline) then Some Timeline
    else (if bytes_eq word (command_word TraceEvents) then Some TraceEvents
    else (if bytes_eq word (command_word Page) then Some Page
    else (if bytes_eq word (command_word Quote) then Some Quote
    else (if bytes_eq word (command_word Generate) then Some Generate else None))))))))

-- the options with a text that a job has, and its files
abbrev pub settings_of : Job → List Setting
settings_of Replay = Scopes ∷ Tasks ∷ Load ∷ Expect ∷ Color ∷ File ∷ []
settings_of Check = Color ∷ Notes ∷ Answers ∷ []
settings_of Dump = Scopes ∷ Tasks ∷ Load ∷ Format ∷ Color ∷ File ∷ []
settings_of Tree = Scopes ∷ Tasks ∷ Load ∷ Depth ∷ Scope ∷ Color ∷ File ∷ []
settings_of Timeline = Scopes ∷ Tasks ∷ Load ∷ Width ∷ Rows ∷ From ∷ To ∷ Since ∷ Until ∷ Scope ∷ Color ∷ File ∷ []
settings_of TraceEvents = Scopes ∷ Tasks ∷ Load ∷ Color ∷ File ∷ []
settings_of Page = Scopes ∷ Tasks ∷ Load ∷ Color ∷ File ∷ []
settings_of Quote = Deadline ∷ After ∷ TreeAfter ∷ Journal ∷ page_file ∷ Color ∷ File ∷ []
settings_of Generate = Seed ∷ Lines ∷ Color ∷ []

-- the options without a text that a job has: each that runs a script may be strict and quiet, and all but a page can be
-- explained; a replay can be traced or reply as JSON, a view for people may be lenient, and a tree may show what is
-- waited for alone
abbrev pub flags_of : Job → List Flag
flags_of Replay = Strict ∷ Quiet ∷ Explain ∷ Trace ∷ Json ∷ []
flags_of Check = []
flags_of Dump = Strict ∷ Quiet ∷ Explain ∷ []
flags_of Tree = Strict ∷ Quiet ∷ Explain ∷ Lenient ∷ Awaited ∷ []
flags_of Timeline = Strict ∷ Quiet ∷ Explain ∷ Lenient ∷ []
flags_of TraceEvents = Strict ∷ Quiet ∷ Explain ∷ Lenient ∷ []
flags_of Page = Strict ∷ Quiet ∷ Lenient ∷ []
flags_of Quote = []
flags_of Generate = []

-- The texts that the words ask for: help and the version.
use Rattle.std.specs.Prelude.{if◌then◌else◌, ◌++◌, ◌∷◌, ◌≡◌, ◌⊎◌}
use Rattle.command_line.specs.Words.{[], ℕ, Bool, CHECK_HELP, Check, DUMP_HELP, Dump, GENERATE_HELP, Generate, HELP, Job, List, PAGE_HELP, QUOTE_HELP, Quote, REPLAY_HELP, Replay}
use Rattle.command_line.specs.Words.{TIMELINE_HELP, TRACE_HELP, TREE_HELP, Timeline, TraceEvents, Tree, bytes_eq, codes, false, option_and_then, option_map_or, slice_get}
use Rattle.command_line.specs.{Faults.AsksHelp, Faults.AsksVersion, Jobs.job_named}
use Rattle.command_line.specs.declared.lines.Job.TheVariants.{Page}

-- the help of a job
abbrev pub help_of_job : Job → List ℕ
help_of_job Replay = REPLAY_HELP.now
help_of_job Check = CHECK_HELP.now
help_of_job Dump = DUMP_HELP.now
help_of_job Tree = TREE_HELP.now
help_of_job Timeline = TIMELINE_HELP.now
help_of_job TraceEvents = TRACE_HELP.now
help_of_job Page = PAGE_HELP.now
help_of_job Quote = QUOTE_HELP.now
help_of_job Generate = GENERATE_HELP.now

-- the help of the job whose word stands at the place; of the program, if none does
abbrev pub help_in : List (List ℕ) → (place : ℕ) → List ℕ
help_in words place = option_map_or help_of_job (option_and_then job_named (slice_get words place)) HELP.now

-- the second word is `help`
abbrev pub has_help_word : List (List ℕ) → Bool
has_help_word words = option_map_or (λ word. bytes_eq word (codes "help")) (slice_get words 1) false

-- the help that the words ask for: that of the job whose word stands behind the program's name, or behind `help`
abbrev pub help_of : List (List ℕ) → List ℕ
help_of words = if has_help_word words then help_in words 2 else help_in words 1

abbrev pub version_line : List ℕ
version_line = codes "scopectl 0.2.0" ++ 10 ∷ []

-- the words ask for this text
abbrev pub AsksFor : List (List ℕ) → List ℕ → Type 0
AsksFor words text =
    (AsksHelp words × (text ≡ help_of words)) ⊎ (AsksVersion words × (text ≡ version_line))

-- The log of a scope tells what the history says of it.
use Rattle.std.proofs.Common.{ℕ, ◌∙◌, ◌≡◌, Some, ap}
use Rattle.scope_log.specs.{History, LogTellsCause, LogTellsCompletions, LogTellsCounts, LogTellsNext, LogTellsOutcome, LogTellsReady, LogTellsSettled, LogTellsStages, LogTellsStates, LogTellsTasks, LogValue, Opening, answer_in}
use Rattle.scope_log.specs.{cause_in, completions_in, counts_in, entries, log, outcome_in, ready_in, settled_in, stage_in, state_in, tasks_in}
use Rattle.scope_log.proofs.{LogCounts.counts_told, LogCounts.ready_told, LogCounts.settled_told, LogCounts.tasks_told, LogMarks.cause_told, LogOutcomes.log_of, LogOutcomes.next_told, LogOutcomes.outcome_told}
use Rattle.scope_log.proofs.{LogStates.completions_told, LogStates.state_told, LogTasks.stage_told, NewLogs.log_there}

pub entries_there : (h : History) (s : ℕ) (l : LogValue) → log h s ≡ Some l → l.entries ≡ entries h s
entries_there h s l is = ap (λ (x : LogValue). x.entries) (log_there h s l is).log

pub tells_cause : LogTellsCause
tells_cause L h s l legal is = ap cause_in (entries_there h s l is) ∙ cause_told L h s legal

pub tells_tasks : LogTellsTasks
tells_tasks L h s l legal is = ap tasks_in (entries_there h s l is) ∙ tasks_told L h s legal

pub tells_stages : LogTellsStages
tells_stages L h s l legal is k in_it = ap (λ es. stage_in es k) (entries_there h s l is) ∙ stage_told L h s k legal in_it

pub tells_states : LogTellsStates
tells_states L h s l legal is k in_it = ap (λ es. state_in es k) (entries_there h s l is) ∙ state_told L h s k legal in_it

pub tells_counts : LogTellsCounts
tells_counts L h s l legal is = ap counts_in (entries_there h s l is) ∙ counts_told L h s legal

pub tells_settled : LogTellsSettled
tells_settled L h s l legal is = ap settled_in (entries_there h s l is) ∙ settled_told L h s legal

pub tells_ready : LogTellsReady
tells_ready L h s l legal is = ap ready_in (entries_there h s l is) ∙ ready_told L h s legal

pub tells_completions : LogTellsCompletions
tells_completions L h s l legal is = ap completions_in (entries_there h s l is) ∙ completions_told L h s legal

pub tells_outcome : LogTellsOutcome
tells_outcome L h s l legal is = let it = log_there h s l is in ap outcome_in it.log ∙ outcome_told L h s it.opened legal it.is

pub tells_next : LogTellsNext
tells_next L h s l legal is o opened =
    let it = log_there h s l is in
    let same : it.opened ≡ o = cc (it.is, opened) in
    ap answer_in it.log ∙ (ap (λ (x : Opening). answer_in (log_of h s x)) same ∙ next_told L h s o legal)

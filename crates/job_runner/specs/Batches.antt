-- What a batch of forks of jobs does, and answers.
use Rattle.std.specs.Prelude.{[], ℕ, ◌++◌, ◌∷◌, ◌≡◌, Err, IfErr, List, None, Ok, Option, Result, Some, map}
use Rattle.realm_core.specs.declared.forking.Forked.TheVariants.{Never, Thread}
use Rattle.job_runner.specs.Words.{All, ForkRefusal, ForkReply, Forked, ForksAll, ForksUpTo, HasThreadMore, IsSameTeam, LabelValue, NamedValue, OpenScope, OwnerValue, Refusal, Seen, SeesMore, TableId, TeamValue, TicketValue}
use Rattle.job_runner.specs.{Forks.IsReadyFor, Forks.SpawnsJob, Forks.job_of, Forks.why_alone, Marks.IsMarkOf}
use Rattle.scope_rules.specs.declared.types.answers.ForkReply.TheVariants as reply

-- the label of each job
abbrev pub labels_of : {J : Type 0} → List (NamedValue J) → List LabelValue
labels_of jobs = map (λ job. job.label) jobs

-- what the forks of the labels did with the token, and gave: of all of them, or up to the first that was refused
abbrev pub ForksLabels : OwnerValue → OwnerValue → ℕ → List LabelValue → List Forked → Option Refusal → Type 0
ForksLabels old new s labels forked None = ForksAll old new s labels forked
ForksLabels old new s labels forked (Some refusal) = ForksUpTo old new s labels forked refusal

-- a ticket that a fork in scope s gave may be given to the work of the job
abbrev pub IsReadyOne : {J : Type 0} → TableId → ℕ → NamedValue J → Forked → Type 0
IsReadyOne name s job (Thread ticket) = IsReadyFor name job.label ticket × (ticket.scope ≡ s)
IsReadyOne name s job (Never task) = Unit {0}

-- each of the tickets to that of its own job, in their order; there may be further jobs
abbrev pub AreReady : {J : Type 0} → TableId → ℕ → List (NamedValue J) → List Forked → Type 0
AreReady name s jobs [] = Unit {0}
AreReady name s [] (f ∷ fs) = ⊥
AreReady name s (job ∷ jobs) (f ∷ fs) = IsReadyOne name s job f × AreReady name s jobs fs

-- a thread that was started for the ticket is one more; without one the team stays as it was
abbrev pub KeepsStarted : {C J : Type 0} → TicketValue → TeamValue → TeamValue → Result ForkReply (ForkRefusal C J) → Type 0
KeepsStarted ticket was is (Ok answer) = HasThreadMore ticket was is
KeepsStarted ticket was is (Err refused) = IsSameTeam was is

-- what became of one job whose task was forked: a thread runs it, and is kept; or its task is rejected, as the last
-- step that the token has seen, and the job is handed back; or its task never gets a thread
abbrev pub StartsOne : {C J : Type 0} → OwnerValue → OwnerValue → TeamValue → TeamValue → NamedValue J → Forked → Result ForkReply (ForkRefusal C J) → Type 0
StartsOne old new was is job (Thread ticket) answer = SeesMore old new × SpawnsJob old new ticket (why_alone answer) × IfErr answer (λ e. job_of e ≡ job) × KeepsStarted ticket was is answer
StartsOne old new was is job (Never task) answer = (new ≡ old) × (answer ≡ Ok (reply.Never task)) × IsSameTeam was is

-- what became of each of them, one after the other in their order
abbrev pub StartsEach : {C J : Type 0} → OwnerValue → OwnerValue → TeamValue → TeamValue → List (NamedValue J) → List Forked → List (Result ForkReply (ForkRefusal C J)) → Type 0
StartsEach old new was is [] [] [] = (new ≡ old) × IsSameTeam was is
StartsEach old new was is (job ∷ jobs) (f ∷ fs) (answer ∷ answers) = (mid : OwnerValue) × (team : TeamValue) × StartsOne old mid was team job f answer × StartsEach mid new team is jobs fs answers
StartsEach old new was is _ _ _ = ⊥

-- so it became of the first of the jobs, as many as were forked; the others are left, in their order
pub record StartsFirst {C J : Type 0} (old new : OwnerValue) (was is : TeamValue) (jobs left : List (NamedValue J)) (forked : List Forked) (answers : List (Result ForkReply (ForkRefusal C J))) : Type 0 where
  pub first : List (NamedValue J)
  pub are : jobs ≡ first ++ left
  pub each : StartsEach old new was is first forked answers

-- so it went with the first jobs, whose forks these were, by the token and the team; the others are left, with their forks
pub record IsStarting {C J : Type 0} (old now : OwnerValue) (was is : TeamValue) (jobs left : List (NamedValue J)) (forked later : List Forked) (answers : List (Result ForkReply (ForkRefusal C J))) : Type 0 where
  pub first : List (NamedValue J)
  pub given : List Forked
  pub are : jobs ≡ first ++ left
  pub gave : forked ≡ given ++ later
  pub sees : SeesMore old now
  pub each : StartsEach old now was is first given answers

-- the works, each with its ticket, are of the first jobs and of the threads that were forked for them; the others are
-- left. Each work may be given its ticket, which is of scope s, and has the mark of that scope
pub record ArePaired {J W : Type 0} (name : TableId) (s : ℕ) (opened : List OpenScope) (job : W → NamedValue J) (around : W → Option Seen) (works : List (TicketValue × W)) (jobs left : List (NamedValue J)) (forked later : List Forked) : Type 0 where
  pub jobs_are : jobs ≡ map (λ w. job w.1) works ++ left
  pub forked_are : forked ≡ map (λ w. Thread w.0) works ++ later
  pub ready : All (λ w. IsReadyFor name (job w.1).label w.0) works
  pub scopes : All (λ w. w.0.scope ≡ s) works
  pub marked : All (λ w. IsMarkOf s opened (around w.1)) works

-- the answers for as many threads
abbrev pub started : {C J W : Type 0} → List (TicketValue × W) → List (Result ForkReply (ForkRefusal C J))
started works = map (λ w. Ok (reply.Thread w.0.task)) works

-- what a batch of forks of jobs did: first all the forks, up to the first that was refused; then each job whose task
-- was forked got its thread, or not
pub record ForksJobs {C J : Type 0} (old new : OwnerValue) (was is : TeamValue) (s : ℕ) (jobs left : List (NamedValue J)) (answers : List (Result ForkReply (ForkRefusal C J))) (refusal : Option Refusal) : Type 0 where
  pub mid : OwnerValue
  pub forked : List Forked
  pub forks : ForksLabels old mid s (labels_of jobs) forked refusal
  pub starts : StartsFirst mid new was is jobs left forked answers

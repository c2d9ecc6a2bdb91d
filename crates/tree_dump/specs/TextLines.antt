-- The lines of a tree, without their indents.
use Rattle.std.specs.Prelude.{[], ℕ, ◌++◌, ◌+◌, Bool, List, None, Option, Some, codes, false, suc, true, zero}
use Rattle.tree_dump.specs.Terms.{Cause, CauseKind, Counts, CurrentWait, Expiry, Fail, Finished, MoveOn, Name, Never, Running, ScopeInfo, Stage, State, Waiting, decimal, joiner_text, state_word, text_of}
use Rattle.tree_dump.specs.{Ages.span_text, Waits.wait_text, Words.scope_stage_word}
use Rattle.scope_rules.specs.declared.types.answers.CauseKind.TheVariants as kind

-- the last reading of the clock, if it was read
abbrev pub now_text : Option ℕ → List ℕ
now_text None = []
now_text (Some now) = codes ", now " ++ decimal now

-- the first line: the moment, that reading, and in which call main waits, if it does
unfoldable pub moment_line : ℕ → Option ℕ → Option CurrentWait → List ℕ
moment_line moment now main = codes "moment " ++ decimal moment ++ now_text now ++ wait_text (codes ", main ") now main ++ codes "\n"

-- two spaces for each level
abbrev pub indent : ℕ → List ℕ
indent zero = []
indent (suc n) = indent n ++ codes "  "

-- an actor: main, or a task
abbrev pub owner_text : ℕ → List ℕ
owner_text zero = codes "main"
owner_text (suc n) = codes "task " ++ decimal (suc n)

abbrev pub words_if : Bool → List ℕ → List ℕ
words_if false words = []
words_if true words = words

-- the scope's own deadline, if it has one, whether the join then moves on, and in how long it comes
abbrev pub expiry_text : Expiry → List ℕ
expiry_text Fail = []
expiry_text MoveOn = codes " to move on"

abbrev pub deadline_text : Option ℕ → Expiry → Option ℕ → List ℕ
deadline_text None expiry due = []
deadline_text (Some moment) expiry due = codes ", deadline " ++ decimal moment ++ expiry_text expiry ++ span_text (codes ", in ") due

abbrev pub kind_text : CauseKind → List ℕ
kind_text kind.Call = codes "a call on"
kind_text kind.Close = codes "the close of"
kind_text kind.Joiner = codes "the joiner of"
kind_text kind.Deadline = codes "the deadline of"

-- why the scope is cancelled, where it is: what made the own cancel that reached it, of which scope
abbrev pub cause_text : Option Cause → List ℕ
cause_text None = []
cause_text (Some cause) = codes ", cancelled by " ++ kind_text cause.kind ++ codes " scope " ++ decimal cause.scope

-- how many of the scope's tasks wait or run, of how many
abbrev pub awaits_text : Counts → List ℕ
awaits_text c = codes ", awaits " ++ decimal (c.waiting + c.running) ++ codes " of " ++ decimal (c.waiting + c.running + (c.never + c.finished))

abbrev pub head_text : ScopeInfo → List ℕ
head_text i = codes "scope " ++ decimal i.scope ++ codes " " ++ scope_stage_word i.stage ++ codes ", of " ++ owner_text i.owner ++ codes ", joins " ++ joiner_text i.policy

-- the line of a scope, by itself, by how many tasks it has at each stage, and by in how long its deadline comes
abbrev pub scope_text : ScopeInfo → Counts → Option ℕ → List ℕ
scope_text i c due = head_text i ++ words_if i.joined (codes ", joined") ++ deadline_text i.deadline i.expiry due ++ words_if i.shield (codes ", shielded") ++ cause_text i.cause ++ awaits_text c

-- how far a task has come, and what can be read of it once no more comes of it
abbrev pub progress_text : Stage → State → List ℕ
progress_text Waiting state = codes "waiting"
progress_text Running state = codes "running"
progress_text Never state = codes "never started, " ++ state_word state
progress_text Finished state = codes "finished, " ++ state_word state

-- the line of task k
abbrev pub task_text : ℕ → Name → Stage → State → List ℕ
task_text k name stage state = codes "task " ++ decimal k ++ codes " " ++ text_of name ++ codes ": " ++ progress_text stage state

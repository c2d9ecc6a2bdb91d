-- What a fault that is named on standard error says of the streams and of the plan.
use Rattle.std.specs.Prelude.{◌++◌, ◌||◌, ◌≡◌, ◌⊎◌}
use Rattle.scopectl.specs.Words.{ℕ, ⊤, Bool, CommandLine, Consumes, Delay, IsAtEnd, List, NamesLine, Notes, Option, PlanFault, PlanValue, PlanWhy, ProgramFault}
use Rattle.scopectl.specs.Words.{Says, ScriptOptions, Some, Watched, false, is_some, length, nat_lt, not, true}
use Rattle.scopectl.specs.{Program.ReadPlan, Program.has_late, Program.is_noted, Program.notes_wanted, Runs.HasEnded, Runs.Run, Saying.IsSaid, Texts.line_of}

-- ---- a plan's faults

-- the time is asked for a deadline, or for jobs that are to take time
abbrev pub is_timed : (deadline : Option ℕ) (after : List Delay) → Bool
is_timed deadline after = is_some deadline || nat_lt 0 (length after)

-- what may come at a plan that was read: the jobs are never strange, `time` comes only where it is asked for, and that
-- an offer is missing only if the plan lacks one that is to take time
abbrev pub MayEndPlan : (timed lacks : Bool) → ProgramFault → Type 0
MayEndPlan timed lacks ProgramFault.Rejected = ⊤
MayEndPlan timed lacks ProgramFault.Cancelled = ⊤
MayEndPlan timed lacks ProgramFault.Lost = ⊤
MayEndPlan timed lacks ProgramFault.Memory = ⊤
MayEndPlan timed lacks ProgramFault.Time = timed ≡ true
MayEndPlan timed lacks ProgramFault.NoOffer = lacks ≡ true
MayEndPlan timed lacks _ = ⊥

-- the first bad line of what was read is this one, for this cause: of all bytes, or whatever comes after those that were
-- read
pub record HasBadLine (unread unread_new : Option (List ℕ)) (line : ℕ) (why : PlanWhy) : Type 0 where
  pub bytes : List ℕ
  pub read : Consumes unread unread_new bytes
  pub bad : (IsAtEnd unread_new × NamesLine bytes (PlanFault.Word line why)) ⊎ ((more : List ℕ) → NamesLine (bytes ++ more) (PlanFault.Word line why))

-- the fault is a bad line
abbrev pub IsBadLine : (unread unread_new : Option (List ℕ)) → ProgramFault → Type 0
IsBadLine unread unread_new (ProgramFault.PlanLine line why) = HasBadLine unread unread_new line why
IsBadLine unread unread_new other = ⊥

-- all bytes were read, they are a plan, and the fault is one that may come then
pub record IsUnanswered (deadline : Option ℕ) (after : List Delay) (unread unread_new : Option (List ℕ)) (fault : ProgramFault) : Type 0 where
  pub plan : PlanValue
  pub read : ReadPlan unread unread_new plan
  pub may : MayEndPlan (is_timed deadline after) (not (has_late after plan)) fault

-- the plan that is read has the bad line, or else has no answer
abbrev pub IsOfPlan : (deadline : Option ℕ) (after : List Delay) (unread unread_new : Option (List ℕ)) → ProgramFault → Type 0
IsOfPlan deadline after unread unread_new (ProgramFault.PlanLine line why) = HasBadLine unread unread_new line why
IsOfPlan deadline after unread unread_new other = IsUnanswered deadline after unread unread_new other

-- the command is a quote, and the fault is of its plan
abbrev pub OfQuote : CommandLine → (unread unread_new : Option (List ℕ)) → ProgramFault → Type 0
OfQuote (CommandLine.Quote deadline after tree_after) unread unread_new fault = IsOfPlan deadline after.items unread unread_new fault
OfQuote command unread unread_new fault = ⊥

-- the words say a quote, and the fault is of its plan
pub record IsOfQuote (words : List (List ℕ)) (unread unread_new : Option (List ℕ)) (fault : ProgramFault) : Type 0 where
  pub command : CommandLine
  pub said : Says words command
  pub is : OfQuote command unread unread_new fault

-- ---- all faults

-- `read` comes only if the reader ended the run, `write` only if the writer did, `memory` only if the streams
-- are sound, and any other only of a plan
abbrev pub CameFrom : ProgramFault → (ByReader ByWriter Sound : Type 0) → (OfPlan : ProgramFault → Type 0) → Type 0
CameFrom ProgramFault.Read ByReader ByWriter Sound OfPlan = ByReader
CameFrom ProgramFault.Write ByReader ByWriter Sound OfPlan = ByWriter
CameFrom ProgramFault.Memory ByReader ByWriter Sound OfPlan = Sound
CameFrom other ByReader ByWriter Sound OfPlan = OfPlan other

-- the fault came while this reader alone was used
abbrev pub CameReading : {T : Type 0} → Watched T → (OfPlan : ProgramFault → Type 0) → ProgramFault → Type 0
CameReading reader OfPlan fault = CameFrom fault (HasEnded reader) ⊥ (reader.failed ≡ false) OfPlan

-- one line was said, which names a fault that came
pub record NamesFault (said said_new : Option (List ℕ)) (failed : Bool) (ByReader ByWriter Sound : Type 0) (OfPlan : ProgramFault → Type 0) : Type 0 where
  pub fault : ProgramFault
  pub came : CameFrom fault ByReader ByWriter Sound OfPlan
  pub line : IsSaid (line_of fault) said said_new failed

-- the same of a run: a line was said after what stood there before
abbrev pub NamesFrom : (said : Option (List ℕ)) → Run → (OfPlan : ProgramFault → Type 0) → Type 0
NamesFrom said run OfPlan = NamesFault said run.said.after run.errors_failed run.ByReader run.ByWriter run.Sound OfPlan

abbrev pub Names : Run → (OfPlan : ProgramFault → Type 0) → Type 0
Names run OfPlan = NamesFrom run.said.before run OfPlan

-- a fault of a text that is written alone: nothing was to be read
abbrev pub NamesAlone : (said said_new : Option (List ℕ)) (failed writer_failed : Bool) → Type 0
NamesAlone said said_new failed writer_failed = NamesFault said said_new failed ⊥ (writer_failed ≡ true) (writer_failed ≡ false) (λ _. ⊥)

-- a fault of a plan that is read
abbrev pub NamesOfPlan : (deadline : Option ℕ) (after : List Delay) → Run → Type 0
NamesOfPlan deadline after run = Names run (IsOfPlan deadline after run.taken.before run.taken.after)

-- ---- behind notes

-- standard error failed, if notes were to be written, or the fault came of none of the others
abbrev pub OfNotes : (Failed : Type 0) → ProgramFault → Type 0
OfNotes Failed ProgramFault.Notes = Failed
OfNotes Failed other = ⊥

-- one line was said, which names a fault that came, behind notes that the command wants
pub record NamesAfter (command : CommandLine) (run : Run) : Type 0 where
  pub wanted : is_noted command ≡ true
  pub noted : Option (List ℕ)
  pub names : NamesFrom noted run (OfNotes (run.errors_failed ≡ true))

-- so of a replay with these notes
abbrev pub NamesAfterNotes : (notes : Notes) → ScriptOptions → Run → Type 0
NamesAfterNotes notes script run = (explain trace : Bool) → notes_wanted explain trace ≡ Some notes → NamesAfter (CommandLine.Replay script explain trace) run

-- one line was said, which names a fault that came: alone, or behind notes that the command wants
abbrev pub NamesOf : (command : CommandLine) → Run → Type 0
NamesOf command run = Names run (λ _. ⊥) ⊎ NamesAfter command run

-- behind notes that the command of these words wants
pub record NamesNoted (words : List (List ℕ)) (run : Run) : Type 0 where
  pub command : CommandLine
  pub says : Says words command
  pub names : NamesAfter command run

-- one line was said, which names a fault that came; it stands behind notes only if these are wanted
abbrev pub NamesAny : (words : List (List ℕ)) → Run → Type 0
NamesAny words run = Names run (IsOfQuote words run.taken.before run.taken.after) ⊎ NamesNoted words run

-- The lines that name a fault.
use Rattle.std.specs.Prelude.{◌++◌, ◌∷◌}
use Rattle.scopectl.specs.Words.{[], ℕ, Cancelled, GatewayFault, List, Lost, Memory, NoOffer, None, NotedFault, Option, PlanFault, PlanLine, ProgramFault, Read, Rejected, ScriptFault, Some}
use Rattle.scopectl.specs.Words.{Strange, Time, Write, codes, decimal, words_of}
use Rattle.scopectl.specs.declared.fault.ProgramFault.TheVariants.{Notes}

abbrev pub fault_of_run : ScriptFault → ProgramFault
fault_of_run ScriptFault.Read = Read
fault_of_run ScriptFault.Write = Write
fault_of_run ScriptFault.Memory = Memory

abbrev pub fault_of_noted : NotedFault → ProgramFault
fault_of_noted (NotedFault.Run fault) = fault_of_run fault
fault_of_noted NotedFault.Notes = Notes

abbrev pub fault_of_plan : PlanFault → ProgramFault
fault_of_plan (PlanFault.Word line why) = PlanLine line why
fault_of_plan PlanFault.Memory = Memory

abbrev pub fault_of_service : GatewayFault → ProgramFault
fault_of_service GatewayFault.Strange = Strange
fault_of_service GatewayFault.Memory = Memory
fault_of_service GatewayFault.Rejected = Rejected
fault_of_service GatewayFault.Cancelled = Cancelled
fault_of_service GatewayFault.Lost = Lost

abbrev pub word_of : ProgramFault → List ℕ
word_of Read = codes "read"
word_of Write = codes "write"
word_of Notes = codes "notes"
word_of Memory = codes "memory"
word_of (PlanLine line why) = codes "bad-word"
word_of Strange = codes "strange"
word_of Rejected = codes "rejected"
word_of Cancelled = codes "cancelled"
word_of Lost = codes "lost"
word_of NoOffer = codes "after"
word_of Time = codes "time"

-- where the fault is: in which line of the plan, if in one
abbrev pub place_of : ProgramFault → List ℕ
place_of (PlanLine line why) = codes "plan line " ++ decimal line ++ codes ": "
place_of _ = []

-- what more is said: why a line of the plan is a bad one, and what the plan lacks
abbrev pub cause_of : ProgramFault → Option (List ℕ)
cause_of (PlanLine line why) = Some (words_of why)
cause_of NoOffer = Some (codes "no offer of the plan has that name")
cause_of _ = None

-- the line of a cause
abbrev pub cause_line : Option (List ℕ) → List ℕ
cause_line (Some cause) = codes "hint: " ++ cause ++ 10 ∷ []
cause_line None = []

-- the line that is said of a word that is not UTF-8
abbrev pub not_utf8_line : List ℕ
not_utf8_line = codes "error: a word of the command line is not UTF-8" ++ 10 ∷ []

-- the line that names a fault, and that of its cause
abbrev pub line_of : ProgramFault → List ℕ
line_of fault = codes "scopectl: " ++ place_of fault ++ word_of fault ++ 10 ∷ cause_line (cause_of fault)

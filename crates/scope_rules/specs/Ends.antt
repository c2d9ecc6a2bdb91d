-- Short names for types of the code that are aliases there.
use Rattle.scope_rules.specs.Words.{Fault, Label, Result, Value}

abbrev pub LabelValue : Type 0
LabelValue = Label

abbrev pub FaultValue : Type 0
FaultValue = Fault

-- how a task ended
abbrev pub EndValue : Type 0
EndValue = Result Value Fault

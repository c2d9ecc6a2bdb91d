-- Which ends fit which jobs.
use Rattle.std.specs.Prelude.{◌≡◌, ◌⊎◌, Err, Ok, Some, codes}
use Rattle.scope_rules.specs.Words.{Fault, Label}
use Rattle.scope_rules.specs.{Ends.EndValue, Names.text_of}

-- a fault that the runtime itself makes
abbrev pub IsRuntimeFault : Fault → Type 0
IsRuntimeFault f = (text_of f.0 ≡ codes "cancelled") ⊎ ((text_of f.0 ≡ codes "left-open") ⊎ (text_of f.0 ≡ codes "memory"))

abbrev pub IsRuntimeEnd : EndValue → Type 0
IsRuntimeEnd (Ok value) = ⊥
IsRuntimeEnd (Err fault) = IsRuntimeFault fault

-- the end is the one that the label expects, or a fault that the runtime makes
abbrev pub IsDue : Label → EndValue → Type 0
IsDue label end = (label.due ≡ Some end) ⊎ IsRuntimeEnd end

-- Values that are one.
use Rattle.scope_rules.specs.Words.{Bool, Num, Text, Value, false, int_eq}
use Rattle.scope_rules.specs.Names.{same_name}

-- values are distinguished by numbers and texts
abbrev pub same_value : Value → Value → Bool
same_value (Num m) (Num n) = int_eq m n
same_value (Text a) (Text b) = same_name a b
same_value _ _ = false

-- Names by their texts.
use Rattle.scope_rules.specs.Words.{ℕ, Bool, List, Name, nat_eq, pointwise, take}

-- the text of a name
abbrev pub text_of : Name → List ℕ
text_of name = take name.len name.bytes

-- names are distinguished by their texts
abbrev pub same_name : Name → Name → Bool
same_name a b = pointwise nat_eq (text_of a) (text_of b)

-- What the text of a name is.
use Rattle.std.specs.Prelude.{[], ℕ, ◌&&◌, ◌++◌, ◌-◌, ◌==◌, ◌||◌, ◌∷◌, Bool, List, false, length, nat_le, replicate, take}
use Rattle.std.specs.{List.list_all, Str.bytes_eq}
use Rattle.scope_rules.specs.declared.types.names.TheConstants.{NAME_LIMIT}

-- a byte from `a` to `z`
abbrev pub is_letter : ℕ → Bool
is_letter b = nat_le 97 b && nat_le b 122

-- a letter, a digit, `-`, `_` or `.`
abbrev pub is_inner : ℕ → Bool
is_inner b = is_letter b || (nat_le 48 b && nat_le b 57) || (b == 45) || (b == 95) || (b == 46)

abbrev pub begins_with_letter : List ℕ → Bool
begins_with_letter [] = false
begins_with_letter (b ∷ bs) = is_letter b

-- a name has 1 to 24 bytes, begins with a letter, and has letters, digits, `-`, `_` and `.` alone
unfoldable pub is_name : List ℕ → Bool
is_name bs = nat_le (length bs) NAME_LIMIT && begins_with_letter bs && list_all is_inner bs

-- a text and the zeros that fill it up to the bytes of a name
unfoldable pub filled_up : List ℕ → List ℕ
filled_up text = text ++ replicate (NAME_LIMIT - length text) 0

-- whether the first `len` of the bytes are a name, and the bytes are that name filled up
unfoldable pub is_stored : ℕ → List ℕ → Bool
is_stored len bytes = nat_le len NAME_LIMIT && is_name (take len bytes) && bytes_eq bytes (filled_up (take len bytes))

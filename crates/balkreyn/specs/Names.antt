-- A name that is written in the source.
use Rattle.std.specs.Prelude.{ℕ, ◌&&◌, Bool, List, length, nat_le}
use Rattle.balkreyn.specs.Words.{begins_with_letter, is_inner, list_all}

-- the text is a name, as `is_name` says, in a form that the check computes of a literal by itself
abbrev pub is_written : List ℕ → Bool
is_written bs = nat_le (length bs) 24 && begins_with_letter bs && list_all is_inner bs

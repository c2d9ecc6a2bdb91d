-- That the line of a reply is one line of text.
use Rattle.std.specs.Prelude.{ℕ, ◌&&◌, ◌≡◌, Bool, nat_le, true}
use Rattle.script_words.specs.Terms.{Reply, list_all}
use Rattle.script_words.specs.ReplyText.{reply_text}

-- an ASCII byte from the space to `~`
abbrev pub is_printable : ℕ → Bool
is_printable b = nat_le 32 b && nat_le b 126

-- the line of each reply is of printable bytes alone, so that it has no line feed
abbrev pub LinesArePrintable : Type 0
LinesArePrintable = (reply : Reply) → list_all is_printable (reply_text reply) ≡ true

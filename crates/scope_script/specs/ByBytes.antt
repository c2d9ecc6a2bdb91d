-- A script that comes byte by byte: what is kept of it, and what each byte is answered.
use Rattle.std.specs.Prelude.{[], ℕ, ◌++◌, ◌==◌, ◌∷◌, List, Some, if◌then◌else◌}
use Rattle.scope_script.specs.Terms.{Limits, Realm, Tally, starting, the_start}
use Rattle.scope_script.specs.{KeptLines.KeptLine, KeptLines.grown, KeptLines.is_blank, KeptLines.said, Sessions.bad_word_line, Sessions.line_reply, Sessions.realm_after_line, Tallies.no_refusals, Tallies.tally_after_line}
use Rattle.scope_script.specs.{Tallies.with_bad_word}

-- a script under way: the realm, how many lines were refused, and the line that is begun
pub record Session : Type 0 where
  pub realm : Realm
  pub tally : Tally
  pub begun : KeptLine

-- the script goes on by a byte
unfoldable pub after_byte : Session → ℕ → Session
after_byte s b = if b == 10 then record {
  realm = realm_after_line s.realm (said s.begun);
  tally = tally_after_line s.tally s.realm (said s.begun);
  begun = Some [];
} else record { realm = s.realm; tally = s.tally; begun = grown s.begun b }

-- what is answered at the byte
unfoldable pub byte_reply : Session → ℕ → List ℕ
byte_reply s b = if b == 10 then line_reply s.realm (said s.begun) else []

-- the script goes on by bytes
unfoldable pub after_bytes : Session → List ℕ → Session
after_bytes s [] = s
after_bytes s (b ∷ bytes) = after_bytes (after_byte s b) bytes

-- what is answered at the bytes
unfoldable pub bytes_reply : Session → List ℕ → List ℕ
bytes_reply s [] = []
bytes_reply s (b ∷ bytes) = byte_reply s b ++ bytes_reply (after_byte s b) bytes

-- what is answered at the end of the script
abbrev pub end_reply : Session → List ℕ
end_reply s = if is_blank s.begun then [] else bad_word_line

-- how many lines were refused, when the script has ended
abbrev pub end_tally : Session → Tally
end_tally s = if is_blank s.begun then s.tally else with_bad_word s.tally

-- a script that begins
abbrev pub the_beginning : Limits → Session
the_beginning L = record { realm = starting L the_start; tally = no_refusals; begun = Some [] }

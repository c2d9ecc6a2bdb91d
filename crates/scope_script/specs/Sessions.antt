-- What a script is answered: the replies to its lines, and what they leave of the realm.
use Rattle.std.specs.Prelude.{[], ℕ, ◌++◌, ◌∷◌, List}
use Rattle.script_words.specs.declared.commands.Line.TheVariants.{Command}
use Rattle.scope_script.specs.Terms.{BadWord, Limits, Line, Mode, Quiet, Realm, Refused, Replies, Silent, line_said, reply_text, starting, the_start}
use Rattle.scope_script.specs.{Cutting.begun_line, Cutting.ended_lines, Replying.realm_after, Replying.reply_to}
use Rattle.scope_rules.specs.declared.types.refusals.Refusal.TheVariants.{BadWord as bad_word}

-- the line `refused 18 bad-word`
abbrev pub bad_word_line : List ℕ
bad_word_line = reply_text (Refused bad_word) ++ 10 ∷ []

-- what a line is answered, each reply ended by a line feed
unfoldable pub line_reply : Realm → Line → List ℕ
line_reply realm Silent = []
line_reply realm BadWord = bad_word_line
line_reply realm (Command command) = reply_text (reply_to realm command) ++ 10 ∷ []

-- what a line leaves of the realm
unfoldable pub realm_after_line : Realm → Line → Realm
realm_after_line realm (Command command) = realm_after realm command
realm_after_line realm _ = realm

-- the replies to lines in turn
unfoldable pub replies_to : Realm → List (List ℕ) → List ℕ
replies_to realm [] = []
replies_to realm (line ∷ lines) = line_reply realm (line_said line) ++ replies_to (realm_after_line realm (line_said line)) lines

-- what lines in turn leave of the realm
unfoldable pub realm_after_lines : Realm → List (List ℕ) → Realm
realm_after_lines realm [] = realm
realm_after_lines realm (line ∷ lines) = realm_after_lines (realm_after_line realm (line_said line)) lines

-- a last line that no line feed ends is a bad word, whatever it holds; no bytes are no line
abbrev pub cut_reply : List ℕ → List ℕ
cut_reply [] = []
cut_reply (b ∷ line) = bad_word_line

-- the whole reply text of a script, on a fresh realm of these limits
unfoldable pub replies_of : Limits → List ℕ → List ℕ
replies_of L bytes = replies_to (starting L the_start) (ended_lines [] bytes) ++ cut_reply (begun_line [] bytes)

-- the realm that a script leaves
unfoldable pub realm_of_script : Limits → List ℕ → Realm
realm_of_script L bytes = realm_after_lines (starting L the_start) (ended_lines [] bytes)

-- nothing is written if nothing is asked for
abbrev pub shown : Mode → List ℕ → List ℕ
shown Replies text = text
shown Quiet text = []

-- What a script of the code stands for: for its replies, and for the lines that recorded its events.
use Rattle.std.specs.Prelude.{◌≡◌}
use Rattle.script_jobs.specs.Words.{ℕ, Count, Limits, List, Option, Replies, RunsPartly, Session, kept, realm_of, the_beginning}
use Rattle.script_jobs.specs.{Jobs.Replayed, Noting.Noting}
use Rattle.script_jobs.specs.declared.session.NotedScript.{NotedScript}

-- the script under way as it is for its replies
abbrev pub plain_of : {g : _} {f : _} {m : _} → NotedScript g f m → Session
plain_of script = record { realm = realm_of script.book.book; tally = script.tally; begun = kept script.begun.first }

-- and for the lines that recorded its events
abbrev pub noting_of : {g : _} {f : _} {m : _} → NotedScript g f m → Noting
noting_of script = record { realm = realm_of script.book.book; lines = script.lines.items; number = script.number }

-- a script that begins was replayed whole, or partly, whatever the limits of its realm
abbrev pub ReplaysFrom : {g : _} {f : _} {m : _} → NotedScript g f m → (unread unread_new written written_new : Option (List ℕ)) → Count → Type 0
ReplaysFrom script unread unread_new written written_new count = (L : Limits) → plain_of script ≡ the_beginning L → Replayed unread unread_new written written_new L count

abbrev pub StopsFrom : {g : _} {f : _} {m : _} → NotedScript g f m → (unread unread_new written written_new : Option (List ℕ)) → Type 0
StopsFrom script unread unread_new written written_new = (L : Limits) → plain_of script ≡ the_beginning L → RunsPartly unread unread_new written written_new Replies L

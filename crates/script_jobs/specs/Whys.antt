-- Why a line is refused.
use Rattle.script_jobs.specs.Words.{Ask, Command, Do, Err, Explained, None, Ok, Option, Realm, Retire, Some, Why, event_reason, query_reason, retire_reason}

-- what is in the way of the command in the realm, if anything does
unfoldable pub command_reason : Realm → Command → Explained
command_reason realm (Do e) = event_reason realm.limits realm.history e
command_reason realm (Retire actor) = retire_reason realm.limits realm.history actor
command_reason realm (Ask query) = query_reason realm.limits realm.history query

-- that the reason is why, if there is one
abbrev pub why_if : Explained → Option Why
why_if (Ok done) = None
why_if (Err r) = Some (Why.Refused r)

-- why the command is refused in the realm, if it is
abbrev pub command_why : Realm → Command → Option Why
command_why realm c = why_if (command_reason realm c)

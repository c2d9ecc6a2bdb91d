-- That a line has a note of a refusal just where it is refused.
use Rattle.std.specs.Prelude.{◌≡◌}
use Rattle.script_jobs.specs.Words.{Checked, Command, Err, Ok, Realm, Refused, Reply, refusing, reply_to}
use Rattle.script_jobs.specs.Whys.{command_reason}

-- what a reply says that a command was refused for
abbrev pub refusal_said : Reply → Checked
refusal_said (Refused r) = Err r
refusal_said _ = Ok tt

-- a command has a reason just if its reply is a refusal, and the reason is of that refusal
abbrev pub RepliesFit : Type 0
RepliesFit = (realm : Realm) (c : Command) → refusal_said (reply_to realm c) ≡ refusing (command_reason realm c)

-- What a script of the code stands for.
use Rattle.scope_script.specs.Terms.{Script, realm_of}
use Rattle.scope_script.specs.ByBytes.{Session}

abbrev pub session_of : {g : _} {f : _} {m : _} → Script g f m → Session
session_of script = record { realm = realm_of script.book; tally = script.tally; begun = script.begun }

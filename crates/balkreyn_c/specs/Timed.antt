-- A realm with the times of its events, and what becomes of both.
use Rattle.std.specs.Prelude.{[], ℕ, ◌==◌, List, if◌then◌else◌, length}
use Rattle.balkreyn_c.specs.Words.{History, Realm, TimedRealm}

-- another realm in its place, with the same times
abbrev pub with_realm : TimedRealm → Realm → TimedRealm
with_realm timed realm = record { realm = realm; times = timed.times }

-- times go with their events: behind a retirement there are none
abbrev pub times_left : History → List ℕ → List ℕ
times_left h times = if length h.events == 0 then [] else times

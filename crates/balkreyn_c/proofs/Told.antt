-- What an end that tells did to a book.
use Rattle.std.proofs.Common.{ℕ, ℤ, ◌≡◌, Option, Some}
use Rattle.balkreyn_c.specs.{Ends, EndsTold, Event, News, Realm, TimedRealm, with_realm}

pub told : (held new : Option TimedRealm) (old : TimedRealm) (realm : Realm) (e : Event) (task : ℕ) (answer : ℤ) (was now : News) → held ≡ Some old → Ends old.realm e task answer realm was now → new ≡ Some (with_realm old realm) → EndsTold held (Some e) task answer new was now
told held new old realm e task answer was now there ends holds = rw there (record { realm = realm; holds = holds; ends = ends })

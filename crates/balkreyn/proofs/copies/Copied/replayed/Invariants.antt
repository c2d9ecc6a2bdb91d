-- What comes before the index has happened.
use Rattle.std.proofs.Common.{◌≡◌, take}
use Rattle.balkreyn.proofs.copies.Copied.replayed.Given as goal

abbrev pub invariant-loop-event : goal.invariant-loop-event
invariant-loop-event l = l.realm.history ≡ record l.fn.self { events = take l.event-index l.fn.self.events }

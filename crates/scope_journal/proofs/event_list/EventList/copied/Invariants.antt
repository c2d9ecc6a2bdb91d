-- So many events are copied.
use Rattle.std.proofs.Common.{◌≡◌, take}
use Rattle.scope_journal.proofs.event_list.EventList.copied.Given as goal

abbrev pub invariant-loop-place : goal.invariant-loop-place
invariant-loop-place l = l.events.items ≡ take l.place l.self.events

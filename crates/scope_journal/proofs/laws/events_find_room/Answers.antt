use Rattle.scope_journal.proofs.EventRoom.{events_room, free_room}
use Rattle.scope_journal.proofs.laws.events_find_room.Goals as goal

pub returns-clause-paid : goal.returns-clause-paid
returns-clause-paid c = events_room

pub returns-clause-free : goal.returns-clause-free
returns-clause-free c = free_room

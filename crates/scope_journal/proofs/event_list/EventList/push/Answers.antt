-- The code is one more, and says the event behind the others.
use Rattle.std.proofs.Common.{[], ◌++◌, ◌∙◌, ◌∷◌, ap, arith}
use Rattle.scope_journal.specs.{EventTable.EventTable, events_said}
use Rattle.scope_journal.proofs.Coding.{codes_more, said_more}
use Rattle.scope_journal.proofs.event_list.EventList.push.Goals as goal

pub invariant_of-self : goal.invariant_of-self
invariant_of-self c = rw c.push_reserved.ensures.items (codes_more c.self.inside.entries _ _ c.args.event.now _ c.self.invariant c.code_of-code.ensures)

pub returns : goal.returns
returns c = record {
  events =
      ap (events_said c.code_of-code.new.self) c.push_reserved.ensures.items
      ∙ (said_more c.self.inside.entries c.code_of-code.new.self _ c.args.event.now c.code_of-code.result c.self.invariant.there c.code_of-code.ensures
      ∙ ap (λ (t : EventTable). t.events ++ c.args.event.now ∷ []) c.self.view_is);
  room = omega (arith, c.push_reserved.ensures.capacity, c.code_of-code.ensures.keeps.name_room, ap (λ (t : EventTable). t.room) c.self.view_is);
  spare = omega (arith, c.code_of-code.ensures.keeps.spare, ap (λ (t : EventTable). t.spare) c.self.view_is);
}

-- The code at the place has its entry, and says the event.
use Rattle.std.proofs.Common.{◌<◌, ◌∙◌, ◌≡◌, Some, ap, arith, length, slice_get, subst, sym}
use Rattle.scope_journal.specs.{EventTable.EventTable, event_of}
use Rattle.scope_journal.proofs.Words.{length-map}
use Rattle.scope_journal.proofs.Coding.{read_entry, read_said}
use Rattle.scope_journal.proofs.event_list.EventList.event.Goals as goal

pub event_of-requires : goal.event_of-requires
event_of-requires c =
    let within : c.args.place < length c.self.inside.codes.items = omega (arith, c.requires, ap (λ (t : EventTable). length t.events) c.self.view_is, length-map c.self.inside.codes.items (event_of c.self.inside.entries)) in
    read_entry c.self.inside.entries _ c.args.place c.index-code.result.now c.self.invariant.there within c.index-code.ensures

pub returns : goal.returns
returns c =
    let within : c.args.place < length c.self.inside.codes.items = omega (arith, c.requires, ap (λ (t : EventTable). length t.events) c.self.view_is, length-map c.self.inside.codes.items (event_of c.self.inside.entries)) in
    subst (λ (t : EventTable). slice_get t.events c.args.place ≡ Some c.event_of.result) c.self.view_is
    (read_said c.self.inside.entries _ c.args.place c.index-code.result.now within c.index-code.ensures ∙ ap Some (sym c.event_of.ensures))

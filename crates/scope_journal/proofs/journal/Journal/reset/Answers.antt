use Rattle.std.proofs.Common.{◌∙◌, ◌≡◌, ap, arith, sym}
use Rattle.scope_journal.specs.{EventTable.EventTable, History, JournalTable, base_of}
use Rattle.scope_journal.proofs.Keeping.{kept_restart, restart_room}
use Rattle.scope_journal.proofs.journal.Journal.reset.Goals as goal

pub invariant_of-self : goal.invariant_of-self
invariant_of-self c =
    let h : History = record { base = c.self.inside.base; events = c.self.inside.events.events } in
    let same : c.args.base ≡ base_of h = c.requires ∙ ap (λ (t : JournalTable). base_of t.realm.history) (sym c.self.view_is) in
    let none = ap (λ (t : EventTable). t.events) c.clear.ensures in
    let room = ap (λ (t : EventTable). t.room) c.clear.ensures in
    let enough = restart_room _ h _ _ c.self.invariant.0 in (
      rw (none, c.binds.ensures, same) (kept_restart _ h _ _ c.self.invariant.0),
      rw (c.binds.ensures, same) (record { room = omega (arith, room, enough, c.self.invariant.1.room); spare = omega arith }),
    )

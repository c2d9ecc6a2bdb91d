-- There is room for the event, and it keeps what is kept.
use Rattle.std.proofs.Common.{◌≤◌, arith, subst, sym}
use Rattle.scope_journal.specs.{Accepts, JournalTable, weight}
use Rattle.scope_journal.proofs.Words.{legal_push}
use Rattle.scope_journal.proofs.Keeping.{kept_push, kept_room}
use Rattle.scope_journal.proofs.journal.Journal.record.Goals as goal

pub push-requires-clause-room : goal.push-requires-clause-room
push-requires-clause-room c =
    let ok = subst (λ (t : JournalTable). Accepts t.realm.limits t.realm.history c.args.event.now) (sym c.self.view_is) c.requires.accepted in
    let spare = subst (λ (t : JournalTable). weight c.args.event.now ≤ t.spare) (sym c.self.view_is) c.requires.room in
    record {
      events = omega (arith, kept_room _ _ c.args.event.now _ _ c.self.invariant.0 ok (omega (arith, spare, c.self.invariant.0.room, c.self.invariant.0.counted)), c.self.invariant.1.room);
      spare = omega (arith, spare, c.self.invariant.1.spare);
    }

pub invariant_of-self : goal.invariant_of-self
invariant_of-self c =
    let ok = subst (λ (t : JournalTable). Accepts t.realm.limits t.realm.history c.args.event.now) (sym c.self.view_is) c.requires.accepted in
    let spare = subst (λ (t : JournalTable). weight c.args.event.now ≤ t.spare) (sym c.self.view_is) c.requires.room in (
      rw (c.push.ensures.events, c.requires.costs)
          (kept_push _ _ c.args.event.now _ _ _ c.self.invariant.0 ok (omega (arith, spare, c.self.invariant.0.room, c.self.invariant.0.counted))),
      record {
        room = omega (arith, c.push.ensures.room, c.self.invariant.1.room);
        spare = omega (arith, c.push.ensures.spare, c.requires.costs, c.self.invariant.1.spare);
      },
    )

pub returns-clause-legal : goal.returns-clause-legal
returns-clause-legal c =
    let ok = subst (λ (t : JournalTable). Accepts t.realm.limits t.realm.history c.args.event.now) (sym c.self.view_is) c.requires.accepted in
    rw c.push.ensures.events (legal_push _ _ c.args.event.now c.self.invariant.0.legal ok)

-- The lines before the index were written.
use Rattle.script_journal.specs.{HasWritten, IsPlainFormatter, events_text}
use Rattle.script_journal.proofs.Lemmas.{take}
use Rattle.script_journal.proofs.script.ShownEventsDisplay.fmt.Given as goal

abbrev pub invariant-loop-event : goal.invariant-loop-event
invariant-loop-event g l =
    IsPlainFormatter l.fn.f → HasWritten g.W.Write.write_str_gives l.fn.f (events_text l.self.base.now (take l.event-index l.self.events.now)) l.f

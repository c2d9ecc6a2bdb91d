-- Each turn copies the next event.
use Rattle.scope_journal.proofs.Words.{◌∙◌}
use Rattle.scope_journal.proofs.Coding.{copied_more}
use Rattle.scope_journal.proofs.event_list.EventList.copied.Goals as goal

pub loop-place-preserved : goal.loop-place-preserved
loop-place-preserved c = c.in_ok-push.ensures.items ∙ copied_more c.args.self.now.events c.loop-place.events.items c.loop-place.place c.event.result c.loop-place.invariant c.event.ensures

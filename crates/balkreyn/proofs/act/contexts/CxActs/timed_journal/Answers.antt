use Rattle.balkreyn.proofs.Shown.{reads_so, says_now}
use Rattle.balkreyn.proofs.act.contexts.CxActs.timed_journal.Goals as goal

pub returns : goal.returns
returns g c = reads_so _ _ _ _ (says_now _ _ c.now-now.new.self c.now-now.result _ _ c.now-now.ensures.read) c.timed_journal.ensures.answer

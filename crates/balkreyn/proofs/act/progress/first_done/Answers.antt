use Rattle.balkreyn.proofs.Words.{sym}
use Rattle.balkreyn.proofs.act.progress.first_done.Goals as goal

pub returns-in-Some-clause-answer : goal.returns-in-Some-clause-answer
returns-in-Some-clause-answer g c =
    let it = rw c.in-Some.is at c.in_ok-done.ensures.answer in
    record {
      slot = c.index-slots-index.result;
      within = c.loop-index-test.true;
      here = sym c.index-slots-index.is;
      its = it.0;
      there = c.loop-index.cx;
      waited = c.loop-index.invariant;
      completes = it.1;
    }

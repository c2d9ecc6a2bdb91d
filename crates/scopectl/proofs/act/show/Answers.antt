-- The notes that are wanted are those of the words.
use Rattle.scopectl.proofs.act.show.Goals as goal

pub returns-then-explain-clause-done : goal.returns-then-explain-clause-done
returns-then-explain-clause-done g c = rw c.if-explain.true c.show_noted.ensures.done

pub returns-else-explain-clause-done : goal.returns-else-explain-clause-done
returns-else-explain-clause-done g c = rw c.if-explain.false c.show_plainly.ensures.done

use Rattle.balkreyn.proofs.Shown.{reads_so}
use Rattle.balkreyn.proofs.by_token.TaskCtxInspectByToken.timed_tree.Goals as goal

pub returns-clause-answer : goal.returns-clause-answer
returns-clause-answer g c = reads_so _ _ _ _ c.timed_tree_in.ensures c.look.ensures.answer.1

use Rattle.balkreyn.proofs.Shown.{reads_so}
use Rattle.balkreyn.proofs.by_token.TaskCtxInspectByToken.dump.Goals as goal

pub returns-clause-answer : goal.returns-clause-answer
returns-clause-answer g c = reads_so _ _ _ _ c.dump_in.ensures c.look.ensures.answer.1

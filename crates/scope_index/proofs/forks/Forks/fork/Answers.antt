-- The task is the last of its scope's list.
use Rattle.scope_index.specs.{with_task}
use Rattle.scope_index.proofs.ForkSteps.{forked_agrees, forks_written}
use Rattle.scope_index.proofs.forks.Forks.fork.Goals as goal

pub returns-clause-kept : goal.returns-clause-kept
returns-clause-kept c =
    forks_written (with_task c.args.task) _ c.args.self.now c.args.scope c.get_mut.result.now c.push.new.self c.self.view_is c.get_mut.ensures.value c.push.ensures

pub returns-clause-agrees : goal.returns-clause-agrees
returns-clause-agrees c = λ h actor label are next. forked_agrees h c.args.self.now _ actor c.args.scope c.args.task label (returns-clause-kept c) next c.requires.list are

-- The list of the scope has room, and nothing else changed.
use Rattle.std.proofs.Common.{◌∙◌, ◌≤◌, ap, subst, sym}
use Rattle.scope_index.specs.{ForkedTasks, OnOk, roomy, with_forks}
use Rattle.scope_index.proofs.Words.{on_err_weaker}
use Rattle.scope_index.proofs.ForkSteps.{forks_back, forks_same, forks_written, roomy_agrees}
use Rattle.scope_index.proofs.forks.Forks.reserve.Goals as goal

pub returns-clause-ok : goal.returns-clause-ok
returns-clause-ok c =
    subst (λ (x : ForkedTasks). OnOk c.reserve.result (1 ≤ x.room)) (sym (forks_back _ c.args.self.now c.args.scope c.reserve.new.self c.self.view_is c.requires)) c.reserve.ensures.ok

pub returns-clause-kept : goal.returns-clause-kept
returns-clause-kept c =
    forks_written (roomy c.reserve.new.self.room) _ c.args.self.now c.args.scope c.get_mut.result.now c.reserve.new.self c.self.view_is c.get_mut.ensures.value c.reserve.ensures.kept
    ∙ ap (λ (x : ForkedTasks). with_forks c.args.self.now c.args.scope (roomy x.room)) (sym (forks_back _ c.args.self.now c.args.scope c.reserve.new.self c.self.view_is c.requires))

pub returns-clause-agrees : goal.returns-clause-agrees
returns-clause-agrees c = λ h are. roomy_agrees h c.args.self.now _ c.args.scope _ (returns-clause-kept c) are

pub returns-clause-err : goal.returns-clause-err
returns-clause-err c = on_err_weaker c.reserve.result (forks_same _ c.args.self.now c.args.scope c.get_mut.result.now c.reserve.new.self c.self.view_is c.get_mut.ensures.value) c.reserve.ensures.err

-- The event's place is the last of its scope, if it has one.
use Rattle.scope_journal.specs.{TrailTable.with_event}
use Rattle.scope_journal.proofs.Words.{◌∙◌, ap, sym}
use Rattle.scope_journal.proofs.{TrailSteps.told_agrees, TrailSteps.told_none, TrailSteps.told_scope, trails.Trails.note.Goals.in-None, trails.Trails.note.Goals.in-Some}
use Rattle.scope_journal.proofs.trails.Trails.note.Goals as goal

pub returns-clause-kept : goal.returns-clause-kept
returns-clause-kept c =
    let put = c.push_reserved.ensures in
    elim c.match-scope.branch [
      | in-Some w ↦
          told_scope _ c.args.self.now w.in-Some.scope c.match-scope.link c.args.place _ _ (c.self.view_is ∙ (w.self-is ∙ w.move_last-link.ensures.kept)) c.requires.place (w.link-is ∙ w.move_last-link.ensures.was) put.items put.capacity
          ∙ ap (λ o. with_event c.args.self.now o) (sym w.in-Some.is)
      | in-None w ↦
          told_none _ c.args.self.now c.match-scope.link c.args.place _ _ (c.self.view_is ∙ w.self-is) c.requires.place w.link-is put.items put.capacity
          ∙ ap (λ o. with_event c.args.self.now o) (sym w.in-None.is)
    ]

pub returns-clause-agrees : goal.returns-clause-agrees
returns-clause-agrees c = λ h e other named loaded are. told_agrees h e c.args.self.now _ c.args.scope (returns-clause-kept c) c.requires.scope other named loaded are

-- The place that is replaced is the scope's last.
use Rattle.scope_journal.specs.{TrailTable.TrailTable, with_last}
use Rattle.scope_journal.proofs.Words.{◌∙◌, ap}
use Rattle.scope_journal.proofs.TrailSteps.{last_was}
use Rattle.scope_journal.proofs.trails.Trails.move_last.Goals as goal

pub returns-clause-was : goal.returns-clause-was
returns-clause-was c = c.replace.ensures.value ∙ last_was _ c.args.self.now c.args.scope c.get_mut.result.now c.self.view_is c.requires c.get_mut.ensures.value

pub returns-clause-kept : goal.returns-clause-kept
returns-clause-kept c = rw c.replace.ensures.after (ap (λ (t : TrailTable). with_last t c.args.scope c.args.place) c.self.view_is)

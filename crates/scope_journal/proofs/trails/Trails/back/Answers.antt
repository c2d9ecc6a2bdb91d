-- The link leads to the event before, if it leads back.
use Rattle.scope_journal.proofs.Latest.{back_agrees, goes_back, link_read, not_back}
use Rattle.scope_journal.proofs.trails.Trails.back.Goals as goal

pub returns-then-link-place-clause-link : goal.returns-then-link-place-clause-link
returns-then-link-place-clause-link c = goes_back c.args.self.now.links c.args.place c.in_ok-link.field-0.now (link_read _ c.args.self.now c.deref.result.now c.args.place c.in_ok-link.field-0.now c.self.view_is c.deref.ensures.value c.in_ok-link.ensures.lookup.3.0 (c.in_ok-link.ensures.lookup.3.1 c.in_ok-link.field-0.now)) c.if-link-place.true

pub returns-then-link-place-clause-agrees : goal.returns-then-link-place-clause-agrees
returns-then-link-place-clause-agrees c = λ h s are has own. back_agrees h c.args.self.now s c.args.place _ (returns-then-link-place-clause-link c) are has own

pub returns-else-link-place-clause-link : goal.returns-else-link-place-clause-link
returns-else-link-place-clause-link c = not_back c.args.self.now.links c.args.place c.in_ok-link.field-0.now (link_read _ c.args.self.now c.deref.result.now c.args.place c.in_ok-link.field-0.now c.self.view_is c.deref.ensures.value c.in_ok-link.ensures.lookup.3.0 (c.in_ok-link.ensures.lookup.3.1 c.in_ok-link.field-0.now)) c.if-link-place.false

pub returns-else-link-place-clause-agrees : goal.returns-else-link-place-clause-agrees
returns-else-link-place-clause-agrees c = λ h s are has own. back_agrees h c.args.self.now s c.args.place _ (returns-else-link-place-clause-link c) are has own

use Rattle.std.proofs.Common.{ℕ, ◌≡◌, ◌⊎◌, None, subst}
use Rattle.balkreyn.specs.{ClosesAfter, ClosesHere, FoundUnsettled, StaysHere, StaysUnclosed, history_seen}
use Rattle.balkreyn.proofs.guards.ScopeGuard.report_by.Goals as goal

pub returns-in-Ok-clause-closed : goal.returns-in-Ok-clause-closed
returns-in-Ok-clause-closed g c =
    let old = c.args.ctx.now in
    let new = c.close_scope_by.new.self in
    let last = c.close_scope_by.new.time in
    subst
    (λ (s : ℕ). ClosesAfter g.K.Clock.reads old.token c.args.clock.now last s (λ there. FoundUnsettled (history_seen there) s None × ClosesHere there new.token s old.team c.in-Ok.report))
    c.self.view_is
    c.in-Ok.ensures.closed

pub returns-in-Err-clause-refused : goal.returns-in-Err-clause-refused
returns-in-Err-clause-refused g c =
    let old = c.args.ctx.now in
    let new = c.close_scope_by.new.self in
    let last = c.close_scope_by.new.time in
    subst
    (λ (s : ℕ). (StaysUnclosed g.K.Clock.reads old.token new.token c.args.clock.now last s c.in-Err.refusal × (new.team ≡ old.team)) ⊎ ClosesAfter g.K.Clock.reads old.token c.args.clock.now last s (λ there. FoundUnsettled (history_seen there) s None × StaysHere there new.token s old.team new.team c.in-Err.refusal))
    c.self.view_is
    c.in-Err.ensures.refused

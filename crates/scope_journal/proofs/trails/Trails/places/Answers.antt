-- Each step of the walk takes a place from what is ahead.
use Rattle.std.proofs.Common.{◌++◌, ◌∙◌, ◌≡◌, None, ap, reverse, sym}
use Rattle.scope_journal.specs.{back, trail_in}
use Rattle.scope_journal.proofs.{TrailSteps.trail_there, TrailSteps.walk_begins, TrailWalks.ahead, TrailWalks.walked}
use Rattle.scope_journal.proofs.trails.Trails.places.Goals as goal

pub loop-next-init : goal.loop-next-init
loop-next-init c = walk_begins c.args.self.now c.args.scope c.last.result c.new-places.result.items c.last.ensures.last c.new-places.ensures.items

pub loop-next-preserved : goal.loop-next-preserved
loop-next-preserved c =
    let links = c.args.self.now.links in
    let so_far = c.loop-next.places.items in
    ap (λ o. ahead links o ++ reverse c.push.new.self.items) c.back-next.ensures.link
    ∙ (ap (λ ps. ahead links (back links c.in-Some.place) ++ reverse ps) (c.in_ok-push.ensures.items)
    ∙ (walked links so_far c.in-Some.place
    ∙ (ap (λ o. ahead links o ++ reverse so_far) (sym c.in-Some.is) ∙ c.loop-next.invariant)))

pub returns-clause-list : goal.returns-clause-list
returns-clause-list c =
    let whole : ahead c.args.self.now.links None ++ reverse c.loop-next.places.items ≡ trail_in c.args.self.now c.args.scope = ap (λ o. ahead c.args.self.now.links o ++ reverse c.loop-next.places.items) (sym c.in_default.is) ∙ c.loop-next.invariant in
    c.reverse.ensures.items ∙ whole

pub returns-clause-agrees : goal.returns-clause-agrees
returns-clause-agrees c = λ h are. returns-clause-list c ∙ trail_there h c.args.self.now c.args.scope c.requires are

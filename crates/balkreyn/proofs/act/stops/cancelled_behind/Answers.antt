use Rattle.balkreyn.specs.{Sleeps}
use Rattle.balkreyn.proofs.Words.{Ok, rules}
use Rattle.balkreyn.proofs.Acted.{mark_of}
use Rattle.balkreyn.proofs.act.stops.cancelled_behind.Goals as goal

-- a mark was shown in the sleep
pub returns-then-is_some : goal.returns-then-is_some
returns-then-is_some g c =
    mark_of (λ shown. Sleeps g.X.Acts.reads g.X.Acts.reading g.X.Acts.time g.X.Scopes.token g.X.Acts.seat c.args.millis c.args.cx.now c.sleep.new.self (Ok shown)) c.in_ok-sleep.field-0 (search rules) c.in_ok-sleep.ensures.answer

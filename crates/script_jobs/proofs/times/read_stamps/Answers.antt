-- One line more.
use Rattle.std.specs.Prelude.{◌≡◌}
use Rattle.script_jobs.specs.{length, realm_of}
use Rattle.script_jobs.proofs.Timed.{all_stamped, one_stamped}
use Rattle.script_jobs.proofs.times.read_stamps.Goals as goal

pub loop-line-preserved : goal.loop-line-preserved
loop-line-preserved c =
    let had : c.event_count-before.result ≡ length (realm_of c.loop-line.book).history.events = cc in
    let has : c.event_count-after.result ≡ length (realm_of c.perform_line.new.book).history.events = cc in
    one_stamped c.loop-line.rest.now c.in-Some.line.now c.in-Some.others.now c.loop-line.events.items c.stamp.new.times.items (realm_of c.loop-line.book) (realm_of c.perform_line.new.book) c.event_count-before.result c.event_count-after.result c.loop-line.last c.at_line-last.result _ c.in-Some.ensures c.loop-line.invariant c.in_ok-perform_line.ensures had has c.at_line-last.ensures c.in_ok-stamp.ensures

pub returns : goal.returns
returns c = all_stamped c.loop-line.rest.now c.loop-line.events.items c.push.new.self.items (realm_of c.loop-line.book) c.loop-line.last _ c.in_default.ensures c.loop-line.invariant c.in_ok-push.ensures.items

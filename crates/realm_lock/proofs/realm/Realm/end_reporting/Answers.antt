use Rattle.realm_lock.proofs.Reported.{reported}
use Rattle.realm_lock.proofs.realm.Realm.end_reporting.Goals as goal

pub returns-in-Some-report_if_settled-clause-done : goal.returns-in-Some-report_if_settled-clause-done
returns-in-Some-report_if_settled-clause-done g c =
    let so_far = c.loop.invariant in
    reported c.args.token.now c.loop.token c.report_if_settled.new.token c.args.scope c.args.tickets.now.items c.loop.tickets.items c.report_if_settled.new.tickets.items c.report_if_settled.result c.in-Some-report_if_settled.answer so_far.1.0 so_far.1.1 so_far.2 c.in-Some-report_if_settled.is c.report_if_settled.ensures.answer
